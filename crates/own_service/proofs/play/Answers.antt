use Rattle.net_schedule.specs.WorldView.{kept}
use Rattle.own_service.proofs.Seen.{all_see, plays_next}
use Rattle.own_service.proofs.play.Goals as goal

pub loop-event-preserved : goal.loop-event-preserved
loop-event-preserved c =
    plays_next c.args.schedule.now c.as_slice-event-items.result.now c.loop-event.event-index _ (kept c.loop-event.world) (kept c.step.new.self) _
    c.as_slice-event-items.ensures c.loop-event-test.true c.loop-event.invariant
    (c.in_ok-step.ensures.done c.args.schedule.now _ c.loop-event.invariant.trace c.loop-event.invariant.stands)

pub returns-clause-seen : goal.returns-clause-seen
returns-clause-seen c =
    all_see c.clients_see_an_unfailing_server.ensures c.args.schedule.now _ (kept c.loop-event.world) c.loop-event.invariant
