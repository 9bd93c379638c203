use Rattle.std.proofs.Common.{[], ◌∷◌, ◌++◌, codes}
use Rattle.replay_check.specs.ErrText.{error_line, cause_text}
use Rattle.replay_check.proofs.Fronts.{then_front, front_then, when_err}
use Rattle.replay_check.proofs.reporting.write_end.Goals as goal

pub returns-in_err-write_text-clause-front : goal.returns-in_err-write_text-clause-front
unfolding error_line
returns-in_err-write_text-clause-front g c =
    when_err c.from_residual.result c.from_residual.ensures.1
    (λ end is. (front_then (g.E.Sink.taken c.args.err.now) (g.E.Sink.taken c.write_text.new.err) (codes "ftreplay: ") (cause_text c.args.end ++ 10 ∷ []) c.in_err-write_text.ensures.front))

pub returns-in_err-write_line-clause-front : goal.returns-in_err-write_line-clause-front
unfolding error_line
returns-in_err-write_line-clause-front g c =
    when_err c.from_residual-in_err-write_line.result c.from_residual-in_err-write_line.ensures.1
    (λ end is. (then_front (g.E.Sink.taken c.args.err.now) (g.E.Sink.taken c.write_text.new.err) (g.E.Sink.taken c.write_line.new.err) (codes "ftreplay: ") (cause_text c.args.end ++ 10 ∷ [])
    c.in_ok-write_text.ensures.whole c.in_err-write_line.ensures.front))
