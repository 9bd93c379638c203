-- A sink in memory.
use Rattle.std.specs.Prelude.{ℕ, List, []}
use Rattle.ft_system.specs.NumberedCalls.{Calls, no_call}

-- a sink in memory, as its callers see it
pub record SinkState : Type 0 where
  -- all bytes that it took
  pub taken : List ℕ
  -- its writes
  pub calls : Calls
  -- how many of them failed
  pub faults : ℕ
  -- how many of them failed because an allocation failed
  pub starved : ℕ

-- an empty sink before the first write
abbrev pub fresh_sink : List ℕ → SinkState
fresh_sink fails = record { taken = []; calls = no_call fails; faults = 0; starved = 0 }
