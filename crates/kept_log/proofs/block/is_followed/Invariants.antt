use Rattle.std.proofs.Common.{◌<◌, ℕ, drop}
use Rattle.kept_log.specs.Startup.{IsMark}
use Rattle.kept_log.proofs.block.is_followed.Given as goal

abbrev pub invariant-loop-at : goal.invariant-loop-at
invariant-loop-at l = (n : ℕ) → n < l.at → IsMark l.tip n (drop n l.bytes) → ⊥
