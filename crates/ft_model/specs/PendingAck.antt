-- When an ACK is pending, so that a pure ACK is sent where no other segment is (RFC 9293, 3.10.7.4, in the offsets of the point before the turn).
use Rattle.std.specs.Prelude.{Bool, true, false, pos, length, is_none, ◌==◌, ◌&&◌, ◌||◌, not, nat_lt, int_lt, if◌then◌else◌}
use Rattle.tcp_rules.specs.Arrival.{int_eq}
use Rattle.seq_arith.specs.Packet.{Segment, has_syn, has_rst, has_ack}
use Rattle.server_trait.specs.Service.{Machine}
use Rattle.ft_model.specs.Offset.{first_of, ack_of, length_of}
use Rattle.ft_model.specs.Point.{Point, taken_units, advertised_edge, acknowledgement, window, is_over}
use Rattle.ft_model.specs.News.{News}
use Rattle.ft_model.specs.News.News.{Comes, Logged, Ticks, Begins}
use Rattle.ft_model.specs.Taken.{accepts, acknowledges_unsent}

-- while the SYN is unacknowledged, TCP answers an acknowledgement of anything but the SYN by a RST and no ACK. The server doesn't send that RST either
abbrev pub is_refused : Point → Segment → Bool
is_refused p segment = not p.syn_acked && has_ack segment && (int_lt (ack_of p.sisn segment) (pos 0) || acknowledges_unsent p segment)

-- an acknowledgement of what was never sent
abbrev pub is_unsent_ack : Point → Segment → Bool
is_unsent_ack p segment = has_ack segment && acknowledges_unsent p segment

-- which acceptable segments TCP answers: a SYN, and a RST that isn't at the next number, get a challenge ACK. A segment whose length isn't 0 gets an ACK, and
-- so does one that acknowledges what was never sent. Any other segment of length 0 past the next number gets no answer: otherwise two ends that each miss a
-- segment would answer each other forever
abbrev pub needs_ack_if_acceptable : Point → Segment → Bool
needs_ack_if_acceptable p segment =
    if has_rst segment then not (int_eq (first_of p.cisn segment) (pos (taken_units p)))
    else (if has_syn segment then true
    else (if is_refused p segment then false else nat_lt 0 (length_of segment) || is_unsent_ack p segment))

-- whether TCP answers a segment with an ACK. One that isn't acceptable always gets one, unless it has RST
unfoldable pub needs_ack : Point → Segment → Bool
needs_ack p segment = if accepts p segment then needs_ack_if_acceptable p segment else not (has_rst segment)

-- the turn's news requires a segment: TCP answers, or the connection was over before and the segment that arrives is no RST, or the connection becomes live
abbrev pub asks : {State : Type 0} → Machine State → News → Point → Bool
asks service (Comes segment) before = needs_ack before segment || (is_over service before && not (has_rst segment))
asks service (Logged kept) before = false
asks service Ticks before = false
asks service Begins before = true

abbrev pub is_segment : News → Bool
is_segment (Comes segment) = true
is_segment (Logged kept) = false
is_segment Ticks = false
is_segment Begins = false

-- Where the profile says so, the ACK of text and FIN that are taken in this turn waits for the log, whose answer makes it due: nothing is held after a gap, and
-- an ACK now would only repeat the acknowledgement and the window that were last sent, as a duplicate does (RFC 9293, 3.8.6.3; RFC 5681, 4.2)
unfoldable pub is_delayed : News → Point → Point → Bool
is_delayed news before after =
    before.delays && is_segment news && nat_lt (taken_units before) (taken_units after) && length after.early.text == 0 && is_none after.early.fin
    && acknowledgement before == acknowledgement after && window before == window after

-- an ACK is due: the news requires a segment, more is known to be logged, or the units taken or the advertised right edge have changed
unfoldable pub is_ack_due : {State : Type 0} → Machine State → News → Point → Point → Bool
is_ack_due service news before after =
    asks service news before || nat_lt before.answered after.answered || not (taken_units before == taken_units after)
    || not (advertised_edge before == advertised_edge after)

-- an ACK is pending: it is due, and doesn't wait
unfoldable pub is_ack_pending : {State : Type 0} → Machine State → News → Point → Point → Bool
is_ack_pending service news before after = not (is_delayed news before after) && is_ack_due service news before after
