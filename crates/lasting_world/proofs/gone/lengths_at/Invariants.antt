use Rattle.std.proofs.Common.{◌≡◌, take, slice_get}
use Rattle.logger_store.specs.StoreState.{lengths_of}
use Rattle.lasting_world.proofs.gone.lengths_at.Given as goal

abbrev pub invariant-loop-at : goal.invariant-loop-at
invariant-loop-at l = l.lengths.items ≡ take l.at (lengths_of (slice_get l.log.entries l.i))
