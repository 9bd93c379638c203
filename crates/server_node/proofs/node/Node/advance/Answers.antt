use Rattle.std.proofs.Common.{refl}
use Rattle.node_serving.specs.Markers.{saving}
use Rattle.node_serving.specs.Identity.{grammar_in}
use Rattle.server_node.specs.MarkedTurns.{marked_input_of}
use Rattle.server_node.proofs.MarkedNodes.{node_goes, turn_apart, calm}
use Rattle.server_node.proofs.node.Node.advance.Goals as goal

pub returns-in-Ok-clause-marked : goal.returns-in-Ok-clause-marked
returns-in-Ok-clause-marked g c =
    let v = saving g.S.Saved.form g.S.Saved.state_of g.S.Saved.is_savable in
    let input = marked_input_of (grammar_in c.args.self.now.who) c.args.input in
    node_goes v input c.args.self.now _ _ refl (λ standing awaits marking. calm c.args.self.now.who standing awaits marking c.args.input c.in-Ok.ensures.unfenced)
    c.in-Ok.ensures.marked

pub returns-in-Ok-clause-beside : goal.returns-in-Ok-clause-beside
returns-in-Ok-clause-beside g c =
    let v = saving g.S.Saved.form g.S.Saved.state_of g.S.Saved.is_savable in
    let input = marked_input_of (grammar_in c.args.self.now.who) c.args.input in
    turn_apart g.S.Service v c.args.self.now.who input c.args.self.now.stage c.go_in_place.new.stage c.go_in_place.new.turn.sent.items c.in-Ok.ensures.marked
