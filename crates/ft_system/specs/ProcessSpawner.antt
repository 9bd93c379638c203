-- A spawner over std's processes. Only its counts are known.
use Rattle.std.specs.Prelude.{ℕ}

-- such a spawner, as its callers see it
pub record SpawnCounts : Type 0 where
  -- how many children were started
  pub started : ℕ
  -- how many calls failed
  pub faults : ℕ

-- a spawner before its first call
abbrev pub fresh_spawner : SpawnCounts
fresh_spawner = record { started = 0; faults = 0 }
