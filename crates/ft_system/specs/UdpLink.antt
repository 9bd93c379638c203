-- A link over std's UDP socket. Only its counts are known.
use Rattle.std.specs.Prelude.{ℕ}

-- such a link, as its callers see it
pub record LinkCounts : Type 0 where
  -- how many of its calls failed
  pub faults : ℕ
  -- how many of them were binds
  pub bind_faults : ℕ

-- a link before its first call
abbrev pub fresh_link : LinkCounts
fresh_link = record { faults = 0; bind_faults = 0 }
