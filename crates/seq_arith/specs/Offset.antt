-- A packet in stream offsets (RFC 9293, 3.4): where its text is in the sender's stream and what it acknowledges of the receiver's. The SYN is at offset -1 and
-- byte k at offset k. For a packet of the client, `own` is the client's initial sequence number and `peer` the server's. For a packet of the server it is
-- the other way round.
use Rattle.std.specs.Prelude.{ℕ, ℤ, Bool, ◌+◌, ◌&&◌, ◌||◌, not, List, [], length, if◌then◌else◌}
use Rattle.seq_arith.specs.Number.{offset_of}
use Rattle.seq_arith.specs.Packet.{Segment, has_fin, has_syn, has_rst}

-- where the segment begins in its sender's stream
abbrev pub first_of : ℕ → Segment → ℤ
first_of own segment = offset_of own segment.head.seq

-- the offset in the other stream up to which it acknowledges
abbrev pub ack_of : ℕ → Segment → ℤ
ack_of peer segment = offset_of peer segment.head.ack

-- text and FIN of a segment with SYN or RST don't count
abbrev pub text_of : Segment → List ℕ
text_of segment = if has_syn segment || has_rst segment then [] else segment.payload

abbrev pub fin_of : Segment → Bool
fin_of segment = has_fin segment && not (has_syn segment || has_rst segment)

abbrev pub one_if : Bool → ℕ
one_if b = if b then 1 else 0

-- SEG.LEN: the text's length, and one more for a FIN; 1 for a SYN, 0 for a RST
abbrev pub length_of : Segment → ℕ
length_of segment = if has_rst segment then 0 else (if has_syn segment then 1 else length segment.payload + one_if (has_fin segment))
