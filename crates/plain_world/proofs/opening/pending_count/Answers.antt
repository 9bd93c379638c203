use Rattle.std.proofs.Common.{◌∙◌, ap}
use mir.Val.{bool_byte}
use Rattle.plain_world.proofs.Openings.{one_more_pending}
use Rattle.plain_world.proofs.opening.pending_count.Goals as goal

pub loop-place-preserved : goal.loop-place-preserved
loop-place-preserved g c =
    one_more_pending c.args.places.now c.loop-place.place-index c.loop-place.count _ _ c.loop-place-test.true c.place-item.is
    (c.from-count.ensures ∙ ap bool_byte c.is_pending.ensures) c.loop-place.invariant
