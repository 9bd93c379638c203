use Rattle.std.proofs.Common.{sym, subst}
use Rattle.replay_check.specs.Ends.{CountsFaults}
use Rattle.replay_run.specs.Playback.{HoldsAtEnd}
use Rattle.replay_run.proofs.RunEnds.{counts_of_error, ok_counts, err_counts}
use Rattle.replay_run.proofs.play.play_whole.Goals as goal
use Rattle.ft_io.proofs.Outcomes.{of_error}

pub play_to_end-requires-clause-reaches : goal.play_to_end-requires-clause-reaches
play_to_end-requires-clause-reaches g c = (g.O.Sink.taken c.args.out.now, c.in_ok-world.ensures.reaches)

pub returns-in_err-world-clause-stops : goal.returns-in_err-world-clause-stops
returns-in_err-world-clause-stops g c =
    of_error c.from_residual.result c.from_residual.ensures.1
    (λ end is. subst (HoldsAtEnd c.args.schedule.now (g.O.Sink.taken c.args.out.now) (g.O.Sink.taken c.start.new.out) c.start.new.report.held.items) (sym is) c.in_err-world.ensures.stops)

pub returns-in_err-world-clause-faults : goal.returns-in_err-world-clause-faults
returns-in_err-world-clause-faults g c =
    counts_of_error c.from_residual.result c.in_err-world.field-0.0 (g.O.Sink.fault_count c.args.out.now) (g.O.Sink.fault_count c.start.new.out) c.from_residual.ensures.1 c.in_err-world.ensures.faults

pub returns-clause-done : goal.returns-clause-done
returns-clause-done g c =
    ok_counts c.play_to_end.result (g.O.Sink.fault_count c.start.new.out) (g.O.Sink.fault_count c.play_to_end.new.out) c.play_to_end.ensures.faults
    (λ counts holds. holds (g.O.Sink.taken c.args.out.now) c.in_ok-world.ensures.reaches) c.play_to_end.ensures.done

pub returns-clause-stops : goal.returns-clause-stops
returns-clause-stops g c =
    err_counts c.play_to_end.result (g.O.Sink.fault_count c.start.new.out) (g.O.Sink.fault_count c.play_to_end.new.out) c.play_to_end.ensures.faults
    (λ end counts holds. holds (g.O.Sink.taken c.args.out.now) c.in_ok-world.ensures.reaches) c.play_to_end.ensures.stops

pub returns-clause-faults : goal.returns-clause-faults
returns-clause-faults g c =
    subst (λ n. CountsFaults n (g.O.Sink.fault_count c.play_to_end.new.out) c.play_to_end.result) c.in_ok-world.ensures.no_fault c.play_to_end.ensures.faults
