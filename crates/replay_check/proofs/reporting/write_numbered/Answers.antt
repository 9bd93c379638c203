use Rattle.std.proofs.Common.{◌++◌, subst, codes}
use Rattle.replay_check.specs.ErrText.{numbered}
use Rattle.replay_check.specs.PartialWrite.{WroteFront}
use Rattle.replay_check.proofs.Fronts.{then_front, when_err}
use Rattle.replay_check.proofs.reporting.write_numbered.Goals as goal

pub returns-in_err-write_both-2-clause-front : goal.returns-in_err-write_both-2-clause-front
unfolding numbered
returns-in_err-write_both-2-clause-front g c =
    when_err c.from_residual-in_err-write_both-2.result c.from_residual-in_err-write_both-2.ensures.1
    (λ end is. (subst (λ digits. WroteFront (g.E.Sink.taken c.args.err.now) (g.E.Sink.taken c.write_both-2.new.err) ((c.args.name.now ++ digits) ++ (codes ": " ++ c.args.word.now)))
    c.format.ensures.text
    (then_front (g.E.Sink.taken c.args.err.now) (g.E.Sink.taken c.write_both.new.err) (g.E.Sink.taken c.write_both-2.new.err) (c.args.name.now ++ c.format.result.now) (codes ": " ++ c.args.word.now)
    c.in_ok-write_both.ensures.whole c.in_err-write_both-2.ensures.front)))
