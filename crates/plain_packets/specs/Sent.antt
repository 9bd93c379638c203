-- Packets that were sent, as bytes. Messages are kept in the wide grammar, whatever the profile's is: it has a spelling for each message that the plain one can
-- write, of the same length.
use Rattle.std.specs.Prelude.{◌≡◌, ℕ, zero, suc, Option, None, List, ◌++◌, map, slice_get}
use Rattle.std.specs.List.{AllByRecursion}
use Rattle.seq_arith.specs.declared.kinds.Grammar.TheVariants.{Wide}
use Rattle.ft_model.specs.Network.{Packet}
use Rattle.ft_model.specs.Wire.{Wire, wire_by, HasWireBy}

-- a packet as it is kept
abbrev pub kept_wire : Packet → Wire
kept_wire packet = wire_by Wide packet

-- .. if it can be written
abbrev pub CanBeKept : Packet → Type 0
CanBeKept packet = HasWireBy Wide packet

-- these packets are sent: if they can be written, their wires are appended
pub record Appends (before after : List Wire) (packets : List Packet) : Type 0 where
  pub follow : AllByRecursion CanBeKept packets → after ≡ before ++ map kept_wire packets

-- the wire with this number, counted from 1
abbrev pub wire_at : List Wire → ℕ → Option Wire
wire_at wires zero = None
wire_at wires (suc n) = slice_get wires n
