use Rattle.std.proofs.Common.{sym, subst}
use Rattle.replay_check.specs.PartialWrite.{Wrote}
use Rattle.replay_run.specs.Playback.{EndsPlaying}
use Rattle.replay_run.proofs.RunEnds.{all_goes, all_fails}
use Rattle.replay_check.proofs.Fronts.{all_taken}
use Rattle.replay_run.proofs.play.play.Goals as goal
use Rattle.ft_io.proofs.Outcomes.{of_error}

pub returns-in_err-flush-in-Ok-clause-stops : goal.returns-in_err-flush-in-Ok-clause-stops
returns-in_err-flush-in-Ok-clause-stops g c =
    of_error c.from_residual.result c.from_residual.ensures.1
    (λ end is. subst (λ x. Wrote (g.O.Sink.taken c.args.out.now) (g.O.Sink.taken c.flush.new.out) (EndsPlaying c.args.schedule.now x)) (sym is)
    (all_fails c.args.schedule.now (g.O.Sink.taken c.args.out.now) (g.O.Sink.taken c.play_whole.new.out) (g.O.Sink.taken c.flush.new.out) c.play_whole.new.report.held.items c.in-Ok.ensures.done
    (λ text way. c.in_err-flush-in-Ok.ensures.err (g.O.Sink.taken c.args.out.now) text way)))

pub returns-in-Ok-clause-done : goal.returns-in-Ok-clause-done
returns-in-Ok-clause-done g c =
    all_goes c.args.schedule.now (g.O.Sink.taken c.args.out.now) (g.O.Sink.taken c.play_whole.new.out) (g.O.Sink.taken c.flush.new.out) c.play_whole.new.report.held.items c.in-Ok.ensures.done
    (λ text way. all_taken (g.O.Sink.taken c.args.out.now) (g.O.Sink.taken c.flush.new.out) c.flush.new.report.held.items text c.in_ok-flush-in-Ok.ensures.empty
    (c.in_ok-flush-in-Ok.ensures.ok (g.O.Sink.taken c.args.out.now) text way))

pub returns-clause-faults : goal.returns-clause-faults
returns-clause-faults g c = c.write_rest.ensures.faults (g.O.Sink.fault_count c.args.out.now) c.in-Err.ensures.faults
