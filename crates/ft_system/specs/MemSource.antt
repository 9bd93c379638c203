-- A source in memory.
use Rattle.std.specs.Prelude.{ℕ, List}
use Rattle.ft_system.specs.NumberedCalls.{Calls, no_call}

-- a source in memory, as its callers see it
pub record SourceState : Type 0 where
  -- the bytes that aren't read yet
  pub left : List ℕ
  -- its reads
  pub calls : Calls
  -- how many of them failed
  pub faults : ℕ

-- a source of these bytes before the first read
abbrev pub fresh_source : List ℕ → List ℕ → SourceState
fresh_source bytes fails = record { left = bytes; calls = no_call fails; faults = 0 }
