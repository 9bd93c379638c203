-- A desk in memory: a network and a file.
use Rattle.std.specs.Prelude.{◌≡◌, ◌⊎◌, ◌<◌, ℕ, Bool, true, false, List, [], Some, if◌then◌else◌}
use Rattle.std.specs.declared.option.Option.{Option}
use Rattle.std.specs.Str.{bytes_eq}
use Rattle.ft_io.specs.declared.link_call.LinkCall.{LinkCall}
use Rattle.ft_system.specs.MemLink.{LinkState}
use Rattle.ft_system.specs.NumberedCalls.{Calls, no_call}
use Rattle.disk.specs.declared.calls.DeskCall.{DeskCall}
use Rattle.disk.specs.declared.calls.DeskCall.TheVariants.{OnLink}
use Rattle.disk.specs.CallRecord.{reported_if}
use Rattle.disk.specs.MemDisk as disks
use Rattle.disk.specs.MemDisk.{DiskState}

-- a desk in memory, as its callers see it
pub record DeskState : Type 0 where
  -- its network
  pub link : LinkState
  -- its file, which records the calls on both
  pub disk : DiskState
  -- the name of the file
  pub name : List ℕ
  -- its opens
  pub opens : Calls
  -- another process has the file
  pub is_in_use : Bool
  -- how many opens were refused, for that or for the file's name
  pub refusals : ℕ
  -- how many calls on the network failed
  pub link_faults : ℕ
  -- how many of them were binds
  pub bind_faults : ℕ
  -- of each receive so far, the oldest first, whether it waits
  pub waits : List Bool
  -- an allocation for that list has failed
  pub forgets_waits : Bool

-- a desk before its first call
abbrev pub fresh_desk : LinkState → DiskState → (name open_fails : List ℕ) → Bool → DeskState
fresh_desk link disk name open_fails is_in_use =
    record {
      link = link;
      disk = disk;
      name = name;
      opens = no_call open_fails;
      is_in_use = is_in_use;
      refusals = 0;
      link_faults = 0;
      bind_faults = 0;
      waits = [];
      forgets_waits = false;
    }

-- the record of the calls on both; there is none once an allocation for it has failed
abbrev pub reported_of : DeskState → Option (List DeskCall)
reported_of desk = disks.reported_of desk.disk

-- which of its receives waited; there is no record once an allocation for it has failed
abbrev pub waits_of : DeskState → Option (List Bool)
waits_of desk = reported_if desk.forgets_waits desk.waits

-- the content of the file of this name: of the desk's own file what isn't read yet, and of any other nothing, since it is new
abbrev pub file_of : DeskState → List ℕ → Option (List ℕ)
file_of desk name = Some (if bytes_eq desk.name name then desk.disk.left else [])

-- a call on the network was recorded
abbrev pub noted : DeskState → LinkCall → DeskState
noted desk call = record desk { disk = disks.noted desk.disk (OnLink call) }

-- an allocation failed while a call was recorded
abbrev pub starved : DeskState → DeskState
starved desk = record desk { disk = disks.starved desk.disk }

-- an allocation has failed in a call
abbrev pub IsStarved : DeskState → Type 0
IsStarved desk = (desk.disk.is_starved ≡ true) ⊎ (0 < desk.link.starved)
