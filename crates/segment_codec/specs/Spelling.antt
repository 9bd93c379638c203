-- The parts of a packet as they are written, without its checksums and with them.
use Rattle.std.specs.Prelude.{◌<◌, ◌^◌, ℕ, List, [], ◌∷◌, ◌++◌, ◌+◌, ◌*◌, ◌/◌, length, take}
use Rattle.seq_arith.specs.Bytes.{two, four}
use Rattle.seq_arith.specs.Checksum.{checksum}
use Rattle.seq_arith.specs.Packet as packet
use Rattle.seq_arith.specs.Packet.{Segment}
use Rattle.seq_arith.specs.PacketGrammar.{options_of}
use Rattle.seq_arith.specs.declared.head.Head.{Head}
use Rattle.segment_codec.specs.Change.{put, sealed}
use Rattle.segment_codec.specs.Value.{said}

abbrev pub segment_with : Head → List ℕ → Segment
segment_with head payload = record { head = said head; payload = payload }

-- bytes 0 to 11, for a packet of this length
unfoldable pub ip_start : ℕ → List ℕ
ip_start len = (69 ∷ 0 ∷ two len) ++ (0 ∷ 0 ∷ 64 ∷ 0 ∷ []) ++ (64 ∷ 6 ∷ 0 ∷ 0 ∷ [])

-- bytes 12 to 23: the addresses and ports
unfoldable pub places : packet.Head → List ℕ
places head = four head.src ++ four head.dst ++ two head.sport ++ two head.dport

-- bytes 24 to 39: the sequence and acknowledgement numbers, the header's length, the flags and the window, and zero for the rest
unfoldable pub numbers : packet.Head → List ℕ
numbers head =
    four head.seq ++ four head.ack ++ (16 * (5 + length (options_of head) / 4) ∷ head.flags ∷ two head.window) ++ (0 ∷ 0 ∷ 0 ∷ 0 ∷ [])

-- a packet with both checksums computed
unfoldable pub with_checksums : List ℕ → List ℕ
with_checksums bytes = sealed (put 10 (two (checksum (take 20 bytes))) bytes)

-- the fields fit their bytes, by their types
pub record PlacesFit (head : packet.Head) : Type 0 where
  pub src : head.src < 2 ^ 32
  pub dst : head.dst < 2 ^ 32
  pub sport : head.sport < 2 ^ 16
  pub dport : head.dport < 2 ^ 16

pub record NumbersFit (head : packet.Head) : Type 0 where
  pub seq : head.seq < 2 ^ 32
  pub ack : head.ack < 2 ^ 32
  pub flags : head.flags < 2 ^ 8
  pub window : head.window < 2 ^ 16
