use Rattle.std.proofs.Common.{◌≡◌, take, slice_get}
use Rattle.logger_store.specs.StoreState.{lengths_of}
use Rattle.replay_run.proofs.lines.read_lengths.Given as goal

-- the first lengths are read
abbrev pub invariant-loop-at : goal.invariant-loop-at
invariant-loop-at l = l.lengths.items ≡ take l.at (lengths_of (slice_get l.log.entries l.i))
