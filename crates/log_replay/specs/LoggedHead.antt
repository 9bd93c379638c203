-- What a restart uses of an entry's head.
use Rattle.limits.specs.Limits.{largest_segment, longest_stream}
use Rattle.std.specs.Prelude.{ℕ, ◌≤◌, ◌^◌, Bool, ◌&&◌, nat_lt}
use Rattle.seq_arith.specs.Message.{EntryHead}

-- a segment size as the log keeps it
abbrev pub IsSegmentSize : ℕ → Type 0
IsSegmentSize mss = (64 ≤ mss) × (mss ≤ largest_segment)

-- A FIN is logged, and the stream has room for it. No log keeps one after a full stream: there it would have no number within the receive window (RFC 9293,
-- section 3.4), and the connection continues without it
abbrev pub has_end : EntryHead → Bool
has_end head = head.fin && nat_lt head.length longest_stream
