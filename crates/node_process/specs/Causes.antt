-- The calls of a process that failed, and the statuses that they cause.
use Rattle.std.specs.Prelude.{◌≡◌, ◌⊎◌, ◌≤◌, ℕ, ◌^◌, Bool, false, Option, Some, None, List}
use Rattle.ft_io.specs.Faults.{Rose}
use Rattle.link_parts.specs.declared.role.NodeRole.TheVariants as node
use Rattle.link_parts.specs.Ends.{is_fault_status}
use Rattle.node_link.specs.Outcome.{IsStill, HasScript}
use Rattle.node_process.specs.declared.role.Role.{Role}
use Rattle.node_process.specs.declared.role.Role.TheVariants.{Node, Lasting, Journal, Twin}

-- how often each call has failed: reads, binds of the link, writes to standard output and to standard error, starts of children and waits for them; and of the
-- desk the calls on the file, the binds, and how often a file was refused
pub record Faults : Type 0 where
  pub reads : ℕ
  pub binds : ℕ
  pub writes : ℕ
  pub errors : ℕ
  pub children : ℕ
  pub journal : ℕ
  pub desk_binds : ℕ
  pub refusals : ℕ

-- a logger with a journal binds its desk, and every other role its link
abbrev pub binds_of : Option Role → Faults → ℕ
binds_of (Some (Journal role)) faults = faults.desk_binds
binds_of _ faults = faults.binds

-- the status of a failed call has such a call; at every other status no read, bind or write and no call on children has failed, not even one that was tried
-- again
pub record HasCause (role : Option Role) (before after : Faults) (code : ℕ) : Type 0 where
  pub bind : code ≡ 4 → Rose (binds_of role before) (binds_of role after)
  pub write : code ≡ 5 → Rose before.writes after.writes ⊎ Rose before.errors after.errors
  pub read : code ≡ 9 → Rose before.reads after.reads
  pub child : code ≡ 10 → Rose before.children after.children
  pub journal : code ≡ 11 → Rose before.journal after.journal
  pub in_use : code ≡ 13 → Rose before.refusals after.refusals
  pub no_bind : is_fault_status code ≡ false → after.binds ≡ before.binds
  pub no_desk_bind : is_fault_status code ≡ false → after.desk_binds ≡ before.desk_binds
  pub no_write : is_fault_status code ≡ false → after.writes ≡ before.writes
  pub no_error : is_fault_status code ≡ false → after.errors ≡ before.errors
  pub no_read : is_fault_status code ≡ false → after.reads ≡ before.reads
  pub no_child : is_fault_status code ≡ false → after.children ≡ before.children

-- the calls that end a role early don't fail: its binds, its writes, a read of its script, and those on children and on a journal
abbrev pub NothingFails : Role → (left : Option (List ℕ)) → (before after : Faults) → Type 0
NothingFails (Node (node.Client role)) left before after =
    HasScript role.script left before.reads after.reads × IsStill before.binds after.binds × IsStill before.writes after.writes
    × IsStill before.errors after.errors
NothingFails (Node (node.Pair role)) left before after = IsStill before.children after.children × IsStill before.writes after.writes
    × IsStill before.errors after.errors
NothingFails (Journal role) left before after =
    IsStill before.journal after.journal × IsStill before.refusals after.refusals × IsStill before.desk_binds after.desk_binds
    × IsStill before.writes after.writes × IsStill before.errors after.errors
NothingFails role left before after = IsStill before.binds after.binds × IsStill before.writes after.writes × IsStill before.errors after.errors

-- the statuses of a role, if none of these calls fails. A server may be fenced, a client's connection may be reset or outlast its turns, a journal may be
-- damaged, and an allocation may fail
abbrev pub MayEnd : Role → (code : ℕ) → Type 0
MayEnd (Node (node.Server role)) code = (code ≡ 0) ⊎ ((code ≡ 6) ⊎ (code ≡ 3))
MayEnd (Lasting role) code = (code ≡ 0) ⊎ ((code ≡ 6) ⊎ (code ≡ 3))
MayEnd (Node (node.Client role)) code = (code ≡ 0) ⊎ ((code ≡ 7) ⊎ ((code ≡ 8) ⊎ (code ≡ 3)))
MayEnd (Journal role) code = (code ≡ 0) ⊎ ((code ≡ 12) ⊎ (code ≡ 3))
MayEnd role code = (code ≡ 0) ⊎ (code ≡ 3)
