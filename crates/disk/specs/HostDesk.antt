-- A desk over std's socket and file: contracts know only its counts.
use Rattle.std.specs.Prelude.{ℕ}

-- such a desk, as its callers see it
pub record DeskCounts : Type 0 where
  -- how many opens and calls on the file failed
  pub faults : ℕ
  -- how many opens were refused: another process has the file, or it isn't there, or it is and was to be made
  pub refusals : ℕ
  -- how many calls on the network failed
  pub link_faults : ℕ
  -- how many of them were binds
  pub bind_faults : ℕ

-- a desk before its first call
abbrev pub fresh_desk : DeskCounts
fresh_desk = record { faults = 0; refusals = 0; link_faults = 0; bind_faults = 0 }
