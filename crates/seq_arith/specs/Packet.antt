-- What a TCP packet says: the value that its bytes spell (RFC 791, 3.1; RFC 9293, 3.1).
use Rattle.limits.specs.Limits.{largest_segment, least_segment}
use Rattle.std.specs.Prelude.{ℕ, Bool, Option, None, Some, List, ◌/◌, ◌%◌, ◌-◌, ◌==◌, max, min}
use Rattle.seq_arith.specs.declared.flags.TheConstants.{FIN, SYN, RST, ACK}
use Rattle.seq_arith.specs.declared.options.Timestamps.{Timestamps}

-- the fields of the two headers that this project uses. Numbers are modulo 2^32
pub record Head : Type 0 where
  pub src : ℕ
  pub dst : ℕ
  pub sport : ℕ
  pub dport : ℕ
  pub seq : ℕ
  pub ack : ℕ
  pub flags : ℕ
  pub window : ℕ
  pub mss : Option ℕ
  pub timestamps : Option Timestamps

-- a segment with its addresses
pub record Segment : Type 0 where
  pub head : Head
  pub payload : List ℕ

-- whether an octet of control bits has a flag, which is given by its value in that octet
abbrev pub has : (flags flag : ℕ) → Bool
has flags flag = flags / flag % 2 == 1

abbrev pub has_fin : Segment → Bool
has_fin segment = has segment.head.flags FIN

abbrev pub has_syn : Segment → Bool
has_syn segment = has segment.head.flags SYN

abbrev pub has_rst : Segment → Bool
has_rst segment = has segment.head.flags RST

abbrev pub has_ack : Segment → Bool
has_ack segment = has segment.head.flags ACK

-- RFC 9293, 3.7.1: the segment size for a peer whose SYN offers this one. It is limited to the range from 64 to 1,460, and is 536 where none is offered
abbrev pub segment_size : Option ℕ → ℕ
segment_size (Some mss) = max least_segment (min largest_segment mss)
segment_size None = 536

-- RFC 7323, 3.2 and appendix A: two NOPs and the timestamps option
abbrev pub timestamps_length : ℕ
timestamps_length = 12

-- RFC 9293, 3.7.1: the size of a segment's text, which leaves room for the timestamps that each segment carries (RFC 7323, 3.2). It is at least 64
abbrev pub text_size : Option ℕ → Option Timestamps → ℕ
text_size mss None = segment_size mss
text_size mss (Some timestamps) = max least_segment (segment_size mss - timestamps_length)

-- the segment with one field changed
abbrev pub with_seq : ℕ → Segment → Segment
with_seq seq segment = record segment { head = record segment.head { seq = seq } }

abbrev pub with_ack : ℕ → Segment → Segment
with_ack ack segment = record segment { head = record segment.head { ack = ack } }

abbrev pub with_window : ℕ → Segment → Segment
with_window window segment = record segment { head = record segment.head { window = window } }

abbrev pub with_timestamps : Option Timestamps → Segment → Segment
with_timestamps timestamps segment = record segment { head = record segment.head { timestamps = timestamps } }
