use Rattle.std.proofs.Common.{[], sym, subst}
use Rattle.net_schedule.specs.WorldView.{kept}
use Rattle.replay_run.specs.Playback.{HoldsAtEnd, StopsPlaying}
use Rattle.replay_run.specs.PlayedRun.{ReportsFront}
use Rattle.replay_check.specs.PartialWrite.{Holds}
use Rattle.replay_check.specs.declared.status.RunEnd.TheVariants.{NoMemory}
use Rattle.replay_run.proofs.RunEnds.{counts_of_error, stopped_few}
use Rattle.replay_run.proofs.Playing.{stands_where, holds_front}
use Rattle.replay_run.proofs.play.play_to_end.Goals as goal
use Rattle.ft_io.proofs.Outcomes.{of_error}

pub play_events-requires-clause-stands : goal.play_events-requires-clause-stands
play_events-requires-clause-stands g c =
    stands_where c.args.schedule.now c.args.schedule.now.events (kept c.args.world.now) c.requires.reaches.0 (g.O.Sink.taken c.args.out.now) c.args.report.now.held.items c.requires.reaches.1.plays

pub close_whole-requires-clause-stands : goal.close_whole-requires-clause-stands
close_whole-requires-clause-stands g c =
    stands_where c.args.schedule.now [] (kept c.play_events.new.world) c.requires.reaches.0 (g.O.Sink.taken c.play_events.new.out) c.play_events.new.report.held.items
    (c.in-Ok.ensures.done c.requires.reaches.0 c.requires.reaches.1).plays

pub close_early-requires : goal.close_early-requires
close_early-requires g c = λ number why is.
    stopped_few c.args.schedule.now number why (kept c.play_events.new.world) c.requires.reaches.0 (g.O.Sink.taken c.play_events.new.out) c.play_events.new.report.held.items
    (subst (StopsPlaying c.args.schedule.now (kept c.play_events.new.world) c.requires.reaches.0 (g.O.Sink.taken c.play_events.new.out) c.play_events.new.report.held.items) is
    (c.in-Err.ensures.stops c.requires.reaches.0 c.requires.reaches.1))
    c.play_events.new.world.few

pub returns-in_err-close_whole-in-Ok-clause-stops : goal.returns-in_err-close_whole-in-Ok-clause-stops
returns-in_err-close_whole-in-Ok-clause-stops g c =
    of_error c.from_residual.result c.from_residual.ensures.1
    (λ end is. λ old before. subst (HoldsAtEnd c.args.schedule.now old (g.O.Sink.taken c.play_events.new.out) c.close_whole.new.report.held.items) (sym is)
    (subst (λ held. Holds old (g.O.Sink.taken c.play_events.new.out) held (ReportsFront c.args.schedule.now)) (sym c.in_err-close_whole-in-Ok.ensures.err)
    (holds_front c.args.schedule.now [] (kept c.play_events.new.world) old (g.O.Sink.taken c.play_events.new.out) c.play_events.new.report.held.items (c.in-Ok.ensures.done old before).plays)))

pub returns-in_err-close_whole-in-Ok-clause-faults : goal.returns-in_err-close_whole-in-Ok-clause-faults
returns-in_err-close_whole-in-Ok-clause-faults g c =
    counts_of_error c.from_residual.result NoMemory (g.O.Sink.fault_count c.args.out.now) (g.O.Sink.fault_count c.play_events.new.out) c.from_residual.ensures.1 c.in-Ok.ensures.faults

pub returns-in_ok-close_whole-in-Ok-clause-done : goal.returns-in_ok-close_whole-in-Ok-clause-done
returns-in_ok-close_whole-in-Ok-clause-done g c = λ old before. c.in_ok-close_whole-in-Ok.ensures.done old (g.O.Sink.taken c.play_events.new.out) (c.in-Ok.ensures.done old before)

pub returns-in_ok-close_whole-in-Ok-clause-faults : goal.returns-in_ok-close_whole-in-Ok-clause-faults
returns-in_ok-close_whole-in-Ok-clause-faults g c = c.in-Ok.ensures.faults

pub returns-in-Err-clause-stops : goal.returns-in-Err-clause-stops
returns-in-Err-clause-stops g c = λ old before. c.close_early.ensures.stops c.args.schedule.now old (g.O.Sink.taken c.play_events.new.out) (c.in-Err.ensures.stops old before)

pub returns-in-Err-clause-faults : goal.returns-in-Err-clause-faults
returns-in-Err-clause-faults g c = c.close_early.ensures.faults (g.O.Sink.fault_count c.args.out.now) (g.O.Sink.fault_count c.play_events.new.out) c.in-Err.ensures.faults
