use Rattle.std.proofs.Common.{[], ◌∷◌}
use Rattle.replay_check.specs.ErrText.{cause_text}
use Rattle.replay_check.proofs.Fronts.{then_front, when_err}
use Rattle.replay_check.proofs.reporting.write_line.Goals as goal

pub returns-in_err-write_text-clause-front : goal.returns-in_err-write_text-clause-front
returns-in_err-write_text-clause-front g c =
    when_err c.from_residual-in_err-write_text.result c.from_residual-in_err-write_text.ensures.1
    (λ end is. (then_front (g.E.Sink.taken c.args.err.now) (g.E.Sink.taken c.write_cause.new.err) (g.E.Sink.taken c.write_text.new.err) (cause_text c.args.end) (10 ∷ []) c.in_ok-write_cause.ensures.whole c.in_err-write_text.ensures.front))
