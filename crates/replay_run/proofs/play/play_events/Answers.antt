use Rattle.std.proofs.Common.{◌∙◌, refl, sym, subst, arith}
use Rattle.std.proofs.lemmas.List.{get_or_default}
use Rattle.net_schedule.specs.WorldView.{kept}
use Rattle.replay_run.specs.Playback.{Reaches, StopsPlaying}
use Rattle.replay_run.proofs.RunEnds.{plays_next, stops_next, none_left}
use Rattle.replay_run.proofs.play.play_events.Goals as goal
use Rattle.ft_io.proofs.Outcomes.{of_error}

pub loop-i-init : goal.loop-i-init
loop-i-init g c = (c.requires.stands, (λ old before. before), refl)

pub loop-i-preserved : goal.loop-i-preserved
loop-i-preserved g c = (
  c.in_ok-play_event.ensures.stands,
  λ old before.
      plays_next c.args.schedule.now c.as_slice-events.result.now _ c.loop-i.i (kept c.loop-i.world) (kept c.play_event.new.world) old (g.O.Sink.taken c.loop-i.out) (g.O.Sink.taken c.play_event.new.out)
      c.loop-i.report.held.items c.play_event.new.report.held.items c.as_slice-events.ensures (omega arith) (get_or_default c.as_slice-events.result.now c.loop-i.i _ _ (omega arith))
      c.in_ok-play_event.ensures.done (c.loop-i.invariant.1 old before),
  c.in_ok-play_event.ensures.faults ∙ c.loop-i.invariant.2,
)

pub returns-in_err-play_event-clause-stops : goal.returns-in_err-play_event-clause-stops
returns-in_err-play_event-clause-stops g c =
    of_error c.from_residual.result c.from_residual.ensures.1
    (λ end is. λ old before. subst (StopsPlaying c.args.schedule.now (kept c.play_event.new.world) old (g.O.Sink.taken c.play_event.new.out) c.play_event.new.report.held.items) (sym is)
    (stops_next c.args.schedule.now c.as_slice-events.result.now _ c.loop-i.i (kept c.loop-i.world) (kept c.play_event.new.world) old (g.O.Sink.taken c.loop-i.out) (g.O.Sink.taken c.play_event.new.out)
    c.loop-i.report.held.items c.play_event.new.report.held.items _ c.as_slice-events.ensures (omega arith) (get_or_default c.as_slice-events.result.now c.loop-i.i _ _ (omega arith))
    c.in_err-play_event.ensures.stops
    (c.loop-i.invariant.1 old (subst (λ es. Reaches c.args.schedule.now es (kept c.args.world.now) old (g.O.Sink.taken c.args.out.now) c.args.report.now.held.items) (sym c.as_slice-events.ensures) before))))

pub returns-clause-done : goal.returns-clause-done
returns-clause-done g c = λ old before.
    none_left c.args.schedule.now c.as_slice-events.result.now c.loop-i.i (kept c.loop-i.world) old (g.O.Sink.taken c.loop-i.out) c.loop-i.report.held.items (omega arith)
    (c.loop-i.invariant.1 old (subst (λ es. Reaches c.args.schedule.now es (kept c.args.world.now) old (g.O.Sink.taken c.args.out.now) c.args.report.now.held.items) (sym c.as_slice-events.ensures) before))
