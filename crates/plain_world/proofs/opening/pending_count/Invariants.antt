use Rattle.plain_world.proofs.Openings.{IsPendingCount}
use Rattle.plain_world.proofs.opening.pending_count.Given as goal

abbrev pub invariant-loop-place : goal.invariant-loop-place
invariant-loop-place g l = IsPendingCount l.place-index l.count l.places
