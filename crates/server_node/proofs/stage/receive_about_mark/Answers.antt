use Rattle.std.proofs.Common.{sym, subst}
use Rattle.seq_arith.specs.MarkGrammar.{reading as mark_reading}
use Rattle.node_serving.specs.Markers.{saving}
use Rattle.server_node.specs.declared.stage.Stage.TheVariants as stage
use Rattle.server_node.specs.MarkedTurns.{IsTurnMarked, received_of}
use Rattle.server_node.proofs.stage.receive_about_mark.Goals as goal

pub returns-in_ok-receive_bytes-in-Marked-clause-marked : goal.returns-in_ok-receive_bytes-in-Marked-clause-marked
returns-in_ok-receive_bytes-in-Marked-clause-marked g c =
    subst (λ s. IsTurnMarked g.S.Service (saving g.S.Saved.form g.S.Saved.state_of g.S.Saved.is_savable) c.args.who (received_of (mark_reading c.args.bytes.now)) s (stage.Marked c.in_ok-receive_bytes-in-Marked.field-0) c.receive_bytes.new.turn.sent.items)
    (sym c.in-Marked.is) (c.in_ok-receive_bytes-in-Marked.ensures.turn, c.in_ok-receive_bytes-in-Marked.ensures.apart)
