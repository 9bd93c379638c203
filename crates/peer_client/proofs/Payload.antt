-- A packet's payload is short.
use Rattle.std.proofs.Common.{◌≡◌, ℕ, ◌≤◌, List, length, length-drop, refl, sym, subst, arith}
use Rattle.std.specs.Prelude.{Result, Ok, Err, IsOk}
use Rattle.seq_arith.specs.Packet.{Segment}
use Rattle.seq_arith.specs.PacketGrammar.{reading, segment_in, payload_at}
use Rattle.seq_arith.specs.declared.BadPacket.{BadPacket}
use Rattle.segment_codec.proofs.Accepting.{packet_is_short, is_read}

-- the payload of what a reading says has at most so many bytes
abbrev IsShort : Result Segment BadPacket → Type 0
IsShort (Ok segment) = length segment.payload ≤ 65535
IsShort (Err bad) = Unit {0}

pub payload_is_short : (bytes : List ℕ) (segment : Segment) → reading bytes ≡ Ok segment → length segment.payload ≤ 65535
unfolding segment_in
payload_is_short bytes segment h =
    let ok : IsOk (reading bytes) = subst (λ (r : Result Segment BadPacket). IsOk r) (sym h) refl in
    let whole : IsShort (Ok (segment_in bytes)) = omega (arith, packet_is_short bytes ok, length-drop (payload_at bytes) bytes) in
    subst IsShort h (subst IsShort (sym (is_read bytes ok)) whole)
