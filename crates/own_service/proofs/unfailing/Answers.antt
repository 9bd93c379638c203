use Rattle.own_service.proofs.Fronts.{answered_next}
use Rattle.own_service.proofs.unfailing.Goals as goal

pub loop-rest-preserved : goal.loop-rest-preserved
loop-rest-preserved c =
    answered_next _ c.loop-rest.counter c.take.new.self c.loop-rest.out.items c.take.new.out.items _ _ c.loop-rest.rest.now _ c.loop-rest.invariant
    c.split_at.ensures.front c.split_at.ensures.back c.in_ok-take.ensures.state c.in_ok-take.ensures.output
