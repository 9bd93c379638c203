use Rattle.node_serving.specs.Conn.{IsSound}
use Rattle.node_serving.specs.Markers.{saving, marker_of}
use Rattle.server_node.proofs.node.Node.conn.Goals as goal

pub returns-clause-sound : goal.returns-clause-sound
unfolding IsSound
returns-clause-sound g c = c.conn_in.ensures.sound c.args.self.now.who c.args.self.now.sound

pub returns-clause-marked : goal.returns-clause-marked
returns-clause-marked g c = λ every node st.
    c.conn_in.ensures.marked (marker_of g.S.Service (saving g.S.Saved.form g.S.Saved.state_of g.S.Saved.is_savable) c.args.self.now.who every) node st.stage
