use Rattle.replay_check.proofs.Fronts.{then_front, front_then, when_err}
use Rattle.replay_check.proofs.reporting.write_both.Goals as goal

pub returns-in_err-write_text-clause-front : goal.returns-in_err-write_text-clause-front
returns-in_err-write_text-clause-front g c =
    when_err c.from_residual.result c.from_residual.ensures.1 (λ end is. (front_then (g.E.Sink.taken c.args.err.now) (g.E.Sink.taken c.write_text.new.err) c.args.first.now c.args.second.now c.in_err-write_text.ensures.front))

pub returns-in_err-write_text-2-clause-front : goal.returns-in_err-write_text-2-clause-front
returns-in_err-write_text-2-clause-front g c =
    when_err c.from_residual-in_err-write_text-2.result c.from_residual-in_err-write_text-2.ensures.1
    (λ end is. (then_front (g.E.Sink.taken c.args.err.now) (g.E.Sink.taken c.write_text.new.err) (g.E.Sink.taken c.write_text-2.new.err) c.args.first.now c.args.second.now c.in_ok-write_text.ensures.whole c.in_err-write_text-2.ensures.front))
