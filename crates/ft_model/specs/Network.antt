-- The network: the list of all packets ever sent, numbered from 1. A delivery names any of them, any number of times and in any order. A packet that is never
-- named is lost. The network forges nothing.
use Rattle.std.specs.Prelude.{ℕ, zero, suc, Option, None, List, slice_get}
use Rattle.ft_io.specs.declared.Key.{Key}
use Rattle.seq_arith.specs.Packet.{Segment}
use Rattle.seq_arith.specs.Message.{Message}

pub data Packet : Type 0 where
  To_server : Segment → Packet  -- from the client at its source address
  To_client : Segment → Packet  -- from the server, to the client at its destination address
  To_logger : Message → Packet
  From_logger : Message → Packet

-- the packet with a number
abbrev pub packet_at : List Packet → ℕ → Option Packet
packet_at packets zero = None
packet_at packets (suc n) = slice_get packets n

abbrev pub source_of : Segment → Key
source_of segment = record { ip = segment.head.src; port = segment.head.sport }

abbrev pub destination_of : Segment → Key
destination_of segment = record { ip = segment.head.dst; port = segment.head.dport }
