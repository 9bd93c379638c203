-- What the codec's values say, as plain records of the packet grammar.
use Rattle.std.specs.Prelude.{Result, Ok, Err}
use Rattle.seq_arith.specs.declared.BadPacket.{BadPacket}
use Rattle.seq_arith.specs.Packet.{Segment}
pub use Rattle.seq_arith.specs.Value.{said}
use Rattle.segment_codec.specs.declared.PacketRef.{PacketRef}

abbrev pub segment_of : PacketRef → Segment
segment_of packet = record { head = said packet.head; payload = packet.payload.now }

-- what a reading says
abbrev pub seen : Result PacketRef BadPacket → Result Segment BadPacket
seen (Ok packet) = Ok (segment_of packet)
seen (Err bad) = Err bad
