-- A spawner in memory.
use Rattle.std.specs.Prelude.{ℕ, ℤ, pos, ◌+◌, ◌-◌, ◌==◌, List, [], ◌∷◌, ◌++◌, None, Some, cond, slice_get}
use Rattle.std.specs.declared.option.Option.{Option}
use Rattle.ft_io.specs.declared.spawn_call.SpawnCall.{SpawnCall}
use Rattle.ft_io.specs.Faults.{raised}
use Rattle.ft_system.specs.NumberedCalls.{Calls, no_call, after_call}

-- a spawner in memory, as its callers see it
pub record SpawnerState : Type 0 where
  -- the exit status of each child
  pub statuses : List ℤ
  -- its starts and waits
  pub attempts : Calls
  -- how many children were started
  pub started : ℕ
  -- the calls that it has recorded, the oldest first
  pub calls : List SpawnCall
  -- how many calls failed
  pub faults : ℕ
  -- how many of them failed because an allocation failed, or the numbers for children ran out
  pub starved : ℕ

-- a spawner before its first call
abbrev pub fresh_spawner : List ℤ → List ℕ → SpawnerState
fresh_spawner listed fails =
    record { statuses = listed; attempts = no_call fails; started = 0; calls = []; faults = 0; starved = 0 }

-- the record of its calls; there is none once `starved` has risen
abbrev pub reported_of : SpawnerState → Option (List SpawnCall)
reported_of spawner = cond (spawner.starved == 0) (Some spawner.calls) None

-- a status, or 0 where there is none
abbrev pub or_zero : Option ℤ → ℤ
or_zero None = pos 0
or_zero (Some status) = status

-- the exit status of a child, with children numbered from 1: 0 past the end of the list
abbrev pub status_of : List ℤ → ℕ → ℤ
status_of statuses child = or_zero (slice_get statuses (child - 1))

-- one start or wait is made
abbrev pub attempted : SpawnerState → SpawnerState
attempted spawner = record spawner { attempts = after_call spawner.attempts }

-- a call was recorded
abbrev pub noted : SpawnerState → SpawnCall → SpawnerState
noted spawner call = record spawner { calls = spawner.calls ++ call ∷ [] }

-- one more child is started
abbrev pub with_child : SpawnerState → SpawnerState
with_child spawner = record spawner { started = spawner.started + 1 }

-- a call failed
abbrev pub failed : SpawnerState → SpawnerState
failed spawner = record spawner { faults = raised spawner.faults }

-- a call failed because an allocation failed, or the numbers for children ran out
abbrev pub starved : SpawnerState → SpawnerState
starved spawner = record spawner { faults = raised spawner.faults; starved = raised spawner.starved }
