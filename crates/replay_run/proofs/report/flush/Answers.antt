use Rattle.std.proofs.Common.{subst}
use Rattle.std.specs.Io.KnownBytes.{Appends}
use Rattle.ft_io.specs.Sink.{AppendsFront}
use Rattle.replay_check.proofs.Fronts.{held_taken, held_front, when_err}
use Rattle.replay_run.proofs.report.flush.Goals as goal

pub returns-in_err-write_all-clause-err : goal.returns-in_err-write_all-clause-err
returns-in_err-write_all-clause-err g c =
    when_err c.from_residual.result c.from_residual.ensures.1
    (λ end is. (λ old text way. held_front old (g.O.Sink.taken c.args.out.now) (g.O.Sink.taken c.write_all.new.out) c.args.report.now.held.items text
    (subst (AppendsFront (g.O.Sink.taken c.args.out.now) (g.O.Sink.taken c.write_all.new.out)) c.as_slice.ensures.value c.in_err-write_all.ensures.front) way))

pub returns-clause-ok : goal.returns-clause-ok
returns-clause-ok g c = λ old text way.
    held_taken old (g.O.Sink.taken c.args.out.now) (g.O.Sink.taken c.write_all.new.out) c.args.report.now.held.items c.clear.new.self.items text
    (subst (Appends (g.O.Sink.taken c.args.out.now) (g.O.Sink.taken c.write_all.new.out)) c.as_slice.ensures.value c.in_ok-write_all.ensures.whole) c.clear.ensures.items way
