-- A packet in stream offsets (`Rattle.seq_arith.specs.Offset`), and when these are near: then they name the right place in the stream.
use Rattle.std.specs.Prelude.{◌≡◌, ℕ, ℤ, true, pos, ◌-ℤ◌, ◌≤ℤ◌, ◌^◌}
use Rattle.seq_arith.specs.Packet.{Segment, has_ack}
pub use Rattle.seq_arith.specs.Offset.{first_of, ack_of, text_of, fin_of, one_if, length_of}

-- an offset that names the right place in a stream of at most 2^24 bytes
abbrev pub IsNearOffset : ℤ → Type 0
IsNearOffset offset = ((pos 0 -ℤ pos (2 ^ 30)) ≤ℤ offset) × (offset ≤ℤ pos (2 ^ 30))

-- near: the segment's beginning, and what it acknowledges if it acknowledges anything
pub record IsNear (own peer : ℕ) (segment : Segment) : Type 0 where
  pub first : IsNearOffset (first_of own segment)
  pub ack : has_ack segment ≡ true → IsNearOffset (ack_of peer segment)
