-- Bytes changed in place.
use Rattle.std.specs.Prelude.{ℕ, List, ◌++◌, ◌+◌, length, take, drop, Result, Ok, Err}
use Rattle.seq_arith.specs.declared.BadPacket.{BadPacket}
use Rattle.seq_arith.specs.Bytes.{two, word_at}
use Rattle.seq_arith.specs.Checksum.{checksum, patched}
use Rattle.seq_arith.specs.Packet.{Segment}
use Rattle.seq_arith.specs.PacketGrammar.{tcp_text}

-- these bytes at a place, and all others as they were
unfoldable pub put : ℕ → List ℕ → List ℕ → List ℕ
put at new bytes = take at bytes ++ new ++ drop (at + length new) bytes

-- a packet with its TCP checksum computed again
unfoldable pub sealed : List ℕ → List ℕ
sealed bytes = let blank = put 36 (two 0) bytes in put 36 (two (checksum (tcp_text blank))) blank

-- the first bytes of a packet with the word at a place replaced, and the TCP checksum patched for it (RFC 1624)
unfoldable pub patched_at : (at word : ℕ) → List ℕ → List ℕ
patched_at at word head = put 36 (two (patched (word_at head 36) (word_at head at) word)) (put at (two word) head)

-- a reading with its segment changed, if it has one
abbrev pub changed : (Segment → Segment) → Result Segment BadPacket → Result Segment BadPacket
changed change (Ok segment) = Ok (change segment)
changed change (Err bad) = Err bad
