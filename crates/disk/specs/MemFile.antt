-- A file in memory, for tests.
use Rattle.std.specs.Prelude.{ℕ, List, []}
use Rattle.ft_system.specs.NumberedCalls.{Calls, no_call}

-- such a file, as its callers see it
pub record FileState : Type 0 where
  -- what it has
  pub content : List ℕ
  -- what it had at its last sync
  pub synced : List ℕ
  -- its writes, changes of its length and syncs, some of which fail
  pub changes : Calls
  -- its writes, some of which write only the first half of the bytes
  pub writes : Calls

-- a file of these bytes before the first call
abbrev pub fresh_file : List ℕ → (fails halves : List ℕ) → FileState
fresh_file bytes fails halves = record { content = bytes; synced = []; changes = no_call fails; writes = no_call halves }
