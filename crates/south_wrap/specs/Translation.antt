-- What becomes of a segment between the client and TCP, and what part of it is sent to the logger.
use Rattle.std.specs.Prelude.{◌≡◌, ◌≤◌, ℕ, Bool, pos, ◌-◌, ◌+ℤ◌, ◌==◌, ◌&&◌, ◌||◌, not, max, nat_lt, nat_le, int_le, List, length, take, drop, if◌then◌else◌}
use Rattle.seq_arith.specs.Number.{number_at}
use Rattle.std.specs.Option.{option_or}
use Rattle.tcp_rules.specs.Arrival.{below, int_eq, is_acceptable_or_at_edge}
use Rattle.tcp_rules.specs.Timestamping.{echo_after, timestamps_sent}
use Rattle.seq_arith.specs.Offset.{first_of, text_of, fin_of, length_of}
use Rattle.seq_arith.specs.Packet.{Segment, has_rst, with_timestamps}
use Rattle.ft_model.specs.Copy.{from_start}
use Rattle.ft_model.specs.Opening.{is_syn}
use Rattle.south_wrap.specs.declared.answers.CopyPart.{CopyPart}
use Rattle.south_wrap.specs.declared.answers.Inward.{Inward}
use Rattle.south_wrap.specs.declared.answers.Inward.TheVariants.{Pass, Repeat}
use Rattle.south_wrap.specs.SouthState.{SouthState, taken_units, acknowledged, room, window, raised, inner_ack, inner_window}

-- Outward: the sequence number is raised by delta, and acknowledgement and window are those of the laws
abbrev pub patched : SouthState → Segment → Segment
patched s segment =
    record segment {
      head = record segment.head {
        seq = raised s segment.head.seq;
        ack = number_at s.cisn (acknowledged s);
        window = window s;
      };
    }

-- with the timestamps of the laws. TCP's segments have none of their own
abbrev pub outward : SouthState → Segment → Segment
outward s segment = with_timestamps (option_or (timestamps_sent s.timestamping) segment.head.timestamps) (patched s segment)

-- the segment's value counts (RFC 7323, 4.3): it is acceptable, no RST, and begins at or before the last acknowledgement sent
abbrev pub is_timely : SouthState → Segment → Bool
is_timely s segment =
    is_acceptable_or_at_edge (taken_units s) (room s) (first_of s.cisn segment) (length_of segment) && not (has_rst segment)
    && int_le (first_of s.cisn segment) (pos (acknowledged s))

-- TS.Recent
abbrev pub with_value_of : Segment → SouthState → SouthState
with_value_of segment s = record s { timestamping = echo_after s.timestamping (is_timely s segment) segment.head.timestamps }

-- Inward: SEG.ACK and SEG.WND are those that TCP is to see. SEG.SEQ stays
abbrev pub inward : SouthState → Segment → Segment
inward s segment = record segment {
  head = record segment.head {
    ack = inner_ack s segment.head.ack;
    window = inner_window s segment.head.ack segment.head.window;
  };
}

-- the client repeats its SYN, and neither its stream nor the output has progressed: the SYN-ACK with the logged numbers answers it, and TCP doesn't see it
abbrev pub repeats_syn : SouthState → Segment → Bool
repeats_syn s segment = is_syn segment && segment.head.seq == s.cisn && taken_units s == 0 && s.una == 0

abbrev pub answer_in : SouthState → Segment → Inward
answer_in s segment = if repeats_syn s segment then Repeat else Pass

abbrev pub passed_in : SouthState → Segment → Segment
passed_in s segment = if repeats_syn s segment then segment else inward s segment

-- what becomes of a segment in its place, without timestamps. A RST of TCP stays as it is: it isn't passed to the client
abbrev pub passed_out : SouthState → Segment → Segment
passed_out s segment = if has_rst segment then segment else patched s segment

-- Copy: the part of a segment that is taken and not known to be logged, with the place in the stream where it begins
pub record Copied : Type 0 where
  pub offset : ℕ  -- where the text begins in the client's stream, in bytes
  pub text : List ℕ  -- the bytes
  pub fin : Bool  -- whether the client's FIN is sent with them

abbrev pub copied : SouthState → Segment → Copied
copied s segment = let start : ℕ = max s.answered (from_start (first_of s.cisn segment)) in record {
  offset = start;
  text = take (s.taken - start) (drop (below s.answered (first_of s.cisn segment)) (text_of segment));
  fin = fin_of segment && (s.fin && int_eq (first_of s.cisn segment +ℤ pos (length (text_of segment))) (pos s.taken) && nat_le s.answered s.taken);
}

-- whether there is such a part
abbrev pub is_some_copied : Copied → Bool
is_some_copied c = nat_lt 0 (length c.text) || c.fin

-- these bytes of a packet are that part
pub record IsPart (bytes : List ℕ) (part : CopyPart) (c : Copied) : Type 0 where
  pub offset : part.offset ≡ c.offset
  pub order : part.from ≤ part.to
  pub within : part.to ≤ length bytes
  pub text : take (part.to - part.from) (drop part.from bytes) ≡ c.text
  pub fin : part.fin ≡ c.fin
