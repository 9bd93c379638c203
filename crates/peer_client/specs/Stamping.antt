-- The timestamps of a live client's segments (RFC 7323, 3.2 and 4.3). TCP knows nothing of them: they are noted from what comes, and added to what it sends.
use Rattle.limits.specs.Limits.{longest_packet}
use Rattle.std.specs.Prelude.{ℕ, ℤ, Bool, true, false, pos, ◌^◌, ◌<◌, ◌&&◌, ◌||◌, not, nat_lt, int_le, is_some, Option, None, Some, List, [], ◌∷◌}
use Rattle.std.specs.Prelude.{map, if◌then◌else◌}
use Rattle.seq_arith.specs.Number.{gap}
use Rattle.seq_arith.specs.Offset.{length_of}
use Rattle.seq_arith.specs.Packet.{Head, Segment, has_rst, has_ack, text_size, with_timestamps}
use Rattle.seq_arith.specs.PacketGrammar.{packet_length}
use Rattle.seq_arith.specs.declared.options.Timestamps.{Timestamps}
use Rattle.tcp_rules.specs.Arrival.{is_acceptable_or_at_edge}
use Rattle.tcp_rules.specs.Timestamping.{asked_by, echo_after, timestamps_sent}
use Rattle.tcp_rules.specs.declared.timestamping.Timestamping.{Timestamping}
use Rattle.tcp_rules.specs.declared.timestamping.Timestamping.TheVariants.{Off, Awaited, Echoes}

pub record StampState : Type 0 where
  pub timestamping : Timestamping  -- whether the client's segments carry timestamps, and which value they echo
  pub acknowledgement : ℕ  -- Last.ACK.sent: the acknowledgement of the last segment sent, ..
  pub window : ℕ  -- .. and its window

-- before the SYN, which has timestamps where the profile uses them. It echoes 0
abbrev pub first_stamps : (uses : Bool) → StampState
first_stamps uses = record { timestamping = if uses then Echoes 0 else Off; acknowledgement = 0; window = 0 }

-- The segment size that TCP reads in a segment of the server. Where the client's SYN has timestamps, it leaves room for those that each segment carries if the
-- SYN-ACK has them too (RFC 9293, 3.7.1)
abbrev pub size_read : Timestamping → Head → Option ℕ
size_read Off head = head.mss
size_read Awaited head = head.mss
size_read (Echoes recent) head = Some (text_size head.mss head.timestamps)

abbrev pub as_read : StampState → Segment → Segment
as_read s segment = record segment { head = record segment.head { mss = size_read s.timestamping segment.head } }

-- the SYN-ACK opens the connection. If the SYN had timestamps, later segments carry them only if the SYN-ACK has them (RFC 7323, 3.2)
abbrev pub opened_by : Segment → StampState → StampState
opened_by segment s = record s { timestamping = asked_by (is_some (timestamps_sent s.timestamping)) segment.head.timestamps }

-- where a segment begins, counted from the last acknowledgement sent, which is RCV.NXT when it comes
abbrev pub place_of : StampState → Segment → ℤ
place_of s segment = gap segment.head.seq s.acknowledgement

-- the segment's value counts (RFC 7323, 4.3): it is acceptable, no RST, and begins at or before the last acknowledgement sent
abbrev pub is_timely : StampState → Segment → Bool
is_timely s segment =
    is_acceptable_or_at_edge 0 s.window (place_of s segment) (length_of segment) && not (has_rst segment) && int_le (place_of s segment) (pos 0)

-- TS.Recent
abbrev pub noted : Segment → StampState → StampState
noted segment s = record s { timestamping = echo_after s.timestamping (is_timely s segment) segment.head.timestamps }

-- a segment comes before the connection has begun (`opening`), and with it the connection has begun or not; or it comes later
abbrev pub stamps_after : (opening begun : Bool) → Segment → StampState → StampState
stamps_after true true segment s = opened_by segment s
stamps_after true false segment s = s
stamps_after false begun segment s = noted segment s

-- a segment of TCP with these timestamps. A RST carries none, and no segment that then wouldn't fit a packet
abbrev pub stamped : Timestamps → Segment → Segment
stamped timestamps segment =
    if has_rst segment || nat_lt longest_packet (packet_length (with_timestamps (Some timestamps) segment)) then segment
    else with_timestamps (Some timestamps) segment

abbrev pub all_stamped : Option Timestamps → List Segment → List Segment
all_stamped None segments = segments
all_stamped (Some timestamps) segments = map (stamped timestamps) segments

-- what the last of these segments acknowledges, and its window
abbrev pub after_last : Segment → StampState → StampState
after_last segment s =
    if has_ack segment && not (has_rst segment) then record s { acknowledgement = segment.head.ack; window = segment.head.window } else s

abbrev pub after_sending : List Segment → StampState → StampState
after_sending [] s = s
after_sending (segment ∷ []) s = after_last segment s
after_sending (segment ∷ next ∷ others) s = after_sending (next ∷ others) s

-- a value that is echoed has 32 bits
abbrev pub EchoFits : Timestamping → Type 0
EchoFits Off = Unit {0}
EchoFits Awaited = Unit {0}
EchoFits (Echoes recent) = recent < 2 ^ 32
