-- A file in memory.
use Rattle.std.specs.Prelude.{ℕ, Bool, true, false, List, [], ◌∷◌, ◌++◌}
use Rattle.std.specs.declared.option.Option.{Option}
use Rattle.ft_io.specs.Faults.{raised}
use Rattle.ft_system.specs.NumberedCalls.{Calls, no_call, after_call}
use Rattle.disk.specs.declared.calls.DeskCall.{DeskCall}
use Rattle.disk.specs.CallRecord.{reported_if}

-- a file in memory, as its callers see it
pub record DiskState : Type 0 where
  -- what it had when it was opened
  pub first : List ℕ
  -- how much of that hasn't been read
  pub left : List ℕ
  -- its reads
  pub reads : Calls
  -- its calls that change it
  pub changes : Calls
  -- what the new file beside it has, and had at its last sync
  pub aside : List ℕ
  pub aside_synced : List ℕ
  -- the calls that it has recorded, the oldest first
  pub calls : List DeskCall
  -- how many calls failed
  pub faults : ℕ
  -- whether an allocation has failed in a call
  pub is_starved : Bool

-- a file of these bytes before the first call
abbrev pub fresh_disk : List ℕ → List ℕ → List ℕ → DiskState
fresh_disk first read_fails fails =
    record {
      first = first;
      left = first;
      reads = no_call read_fails;
      changes = no_call fails;
      aside = [];
      aside_synced = [];
      calls = [];
      faults = 0;
      is_starved = false;
    }

-- the record of all its calls; there is none once an allocation has failed in one
abbrev pub reported_of : DiskState → Option (List DeskCall)
reported_of disk = reported_if disk.is_starved disk.calls

-- a call was recorded
abbrev pub noted : DiskState → DeskCall → DiskState
noted disk call = record disk { calls = disk.calls ++ call ∷ [] }

-- an allocation failed while a call was recorded
abbrev pub starved : DiskState → DiskState
starved disk = record disk { is_starved = true }

-- a call failed
abbrev pub failed : DiskState → DiskState
failed disk = record disk { faults = raised disk.faults }

-- one call is made that changes the file
abbrev pub changing : DiskState → DiskState
changing disk = record disk { changes = after_call disk.changes }

-- there was no file, and an empty one is made
abbrev pub made_anew : DiskState → DiskState
made_anew disk = record disk { first = []; left = [] }
