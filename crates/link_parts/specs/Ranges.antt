-- The ranges of a role's numbers.
use Rattle.limits.specs.Limits.{longest_stream}
use Rattle.std.specs.Prelude.{ℕ, ◌≤◌, ◌*◌, ◌^◌, length, IfSome}
use Rattle.ft_model.specs.Schedule.{bytes_of}
use Rattle.ft_model.specs.declared.schedule.Script.{Script}
use Rattle.link_parts.specs.declared.role.ServerRole.{ServerRole}
use Rattle.link_parts.specs.declared.role.ClientRole.{ClientRole}
use Rattle.link_parts.specs.declared.role.NodeRole.{NodeRole}
use Rattle.link_parts.specs.declared.role.NodeRole.TheVariants.{Server, Logger, Client, Pair}

-- the most turns of a server or a logger: a million, 4 * 10^12 times
abbrev pub most_turns : ℕ
most_turns = 4 * 10 ^ 18

-- a boot number is at least 1
pub record ServerInRange (role : ServerRole) : Type 0 where
  pub boot : 1 ≤ role.boot
  pub turns : role.turns ≤ most_turns

-- a script fits a stream
abbrev pub IsShort : Script → Type 0
IsShort script = length (bytes_of script) ≤ longest_stream

pub record ClientInRange (role : ClientRole) : Type 0 where
  pub turns : role.turns ≤ 1000000
  pub script : IfSome role.script IsShort

abbrev pub InRange : NodeRole → Type 0
InRange (Server role) = ServerInRange role
InRange (Logger role) = role.turns ≤ most_turns
InRange (Client role) = ClientInRange role
InRange (Pair role) = role.base ≤ 65533
