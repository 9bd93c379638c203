-- What a desk counts in addition to the failed calls on its file, and which of its receives waited.
use Rattle.std.specs.Prelude.{ℕ, Bool, Option, None, List}

-- no call on the file changes it
pub record Beside : Type 0 where
  -- how many opens were refused, since another process has the file
  pub refusals : ℕ
  -- how many calls on the network failed
  pub link_faults : ℕ
  -- how many of them were binds
  pub bind_faults : ℕ
  -- of each receive so far, the oldest first, whether it waited for a datagram; `None` where that isn't recorded
  pub waits : Option (List Bool)

-- the counts of a file without a network
abbrev pub nothing : Beside
nothing = record { refusals = 0; link_faults = 0; bind_faults = 0; waits = None }
