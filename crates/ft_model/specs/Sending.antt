-- The law Sending: what an acknowledgement does, and how much is sent (RFC 9293, 3.10.7.4, fifth check, and 3.8; RFC 5681, 2 and 3). All fields are read from
-- the point before the turn, except in `sent_after`, which uses the released output, the edge and the congestion window after it.
use Rattle.std.specs.Prelude.{ℕ, ℤ, Bool, false, pos, ◌+◌, ◌-◌, ◌==◌, ◌&&◌, ◌||◌, not, nat_lt, int_le, max, min, nat_abs, length, if◌then◌else◌}
use Rattle.tcp_rules.specs.Arrival.{una_after, updates_window}
use Rattle.tcp_rules.specs.Congestion.{Congestion, is_partial, with_new_data, is_third, with_duplicate, with_expiry}
use Rattle.seq_arith.specs.Packet.{Segment}
use Rattle.server_trait.specs.Service.{Machine}
use Rattle.ft_model.specs.Offset.{first_of, ack_of, text_of, fin_of, one_if}
use Rattle.ft_model.specs.Point.{Point, target}
use Rattle.ft_model.specs.News.{News}
use Rattle.ft_model.specs.News.News.{Comes, Logged, Ticks, Begins}
use Rattle.ft_model.specs.Taken.{counts}
use Rattle.tcp_rules.specs.Timing.{Timing, with_sent}
use Rattle.ft_model.specs.Timer.{expires, probes, timing_noted}

-- the segment's acknowledgement is used: the segment counts, and its acknowledgement is at offset 0 of the output or later
abbrev pub acknowledges : Point → Segment → Bool
acknowledges p segment = counts p segment && int_le (pos 0) (ack_of p.sisn segment)

-- what a segment that counts acknowledges, but at most what this incarnation sent. The client may have received more from an earlier one ..
abbrev pub acknowledged_by : Point → Segment → ℕ
acknowledged_by p segment = min (nat_abs (ack_of p.sisn segment)) p.sent

-- .. and its window is then raised by the same amount, so that the right edge stays where the client put it
abbrev pub window_by : Point → Segment → ℕ
window_by p segment = min 65535 (segment.head.window + nat_abs (ack_of p.sisn segment) - acknowledged_by p segment)

-- whether the window is used: by TCP's test that the segment isn't an older one, and always where no acknowledgement has counted yet
abbrev pub moves_edge : Point → Segment → Bool
moves_edge p segment =
    acknowledges p segment
    && (not p.syn_acked || updates_window p.una p.wl1 p.wl2 (first_of p.cisn segment) (acknowledged_by p segment))

unfoldable pub syn_acked_after : News → Point → Bool
syn_acked_after (Comes segment) p = p.syn_acked || counts p segment
syn_acked_after (Logged kept) p = p.syn_acked
syn_acked_after Ticks p = p.syn_acked
syn_acked_after Begins p = p.syn_acked

-- SND.UNA
unfoldable pub acknowledged_after : News → Point → ℕ
acknowledged_after (Comes segment) p = if acknowledges p segment then una_after p.una (acknowledged_by p segment) else p.una
acknowledged_after (Logged kept) p = p.una
acknowledged_after Ticks p = p.una
acknowledged_after Begins p = p.una

-- the right edge is absolute: it stays where only SND.UNA moves
unfoldable pub edge_after : News → Point → ℕ
edge_after (Comes segment) p = if moves_edge p segment then acknowledged_by p segment + window_by p segment else p.edge
edge_after (Logged kept) p = p.edge
edge_after Ticks p = p.edge
edge_after Begins p = p.edge

-- SND.WL1
unfoldable pub wl1_after : News → Point → ℤ
wl1_after (Comes segment) p = if moves_edge p segment then first_of p.cisn segment else p.wl1
wl1_after (Logged kept) p = p.wl1
wl1_after Ticks p = p.wl1
wl1_after Begins p = p.wl1

-- SND.WL2
unfoldable pub wl2_after : News → Point → ℕ
wl2_after (Comes segment) p = if moves_edge p segment then acknowledged_by p segment else p.wl2
wl2_after (Logged kept) p = p.wl2
wl2_after Ticks p = p.wl2
wl2_after Begins p = p.wl2

-- what is in flight: the units sent and not acknowledged
abbrev pub flight : Point → ℕ
flight p = p.sent - p.una

-- the segment acknowledges something new
abbrev pub acknowledges_new : Point → Segment → Bool
acknowledges_new p segment = acknowledges p segment && nat_lt p.una (acknowledged_by p segment)

-- A duplicate acknowledgement (RFC 5681, 2): the segment has neither text nor FIN, acknowledges what is acknowledged already while something is in flight,
-- with the same right edge
unfoldable pub is_duplicate : Point → Segment → Bool
is_duplicate p segment =
    acknowledges p segment
    && length (text_of segment) == 0
    && not (fin_of segment)
    && acknowledged_by p segment == p.una
    && nat_lt p.una p.sent
    && acknowledged_by p segment + window_by p segment == p.edge

-- the third duplicate in a row: a segment counts as lost
unfoldable pub is_third_duplicate : News → Point → Bool
is_third_duplicate (Comes segment) p = is_duplicate p segment && is_third p.congestion
is_third_duplicate (Logged kept) p = false
is_third_duplicate Ticks p = false
is_third_duplicate Begins p = false

-- a segment acknowledges only a part of what was in flight when a loss was noticed
unfoldable pub is_partial_ack : News → Point → Bool
is_partial_ack (Comes segment) p = acknowledges_new p segment && is_partial (acknowledged_by p segment - p.una) p.congestion
is_partial_ack (Logged kept) p = false
is_partial_ack Ticks p = false
is_partial_ack Begins p = false

-- a segment counts as lost by what arrives, and is retransmitted at once
abbrev pub resends : News → Point → Bool
resends news p = is_third_duplicate news p || is_partial_ack news p

-- the timer expires while something is in flight and the client's right edge is past SND.UNA: what is in flight counts as lost
abbrev pub is_lost : Point → Bool
is_lost p = expires Ticks p && nat_lt p.una p.sent && nat_lt p.una p.edge

-- the timer hasn't expired since its interval was last computed
abbrev pub is_first_expiry : Point → Bool
is_first_expiry p = if p.timing.measures then not p.timing.backed_off else p.interval == 1

-- the congestion window, the slow start threshold and the count of duplicates
unfoldable pub congestion_after : News → Point → Congestion
congestion_after (Comes segment) p =
    if acknowledges_new p segment then with_new_data p.mss (acknowledged_by p segment - p.una) p.congestion
    else (if is_duplicate p segment then with_duplicate p.mss (flight p) p.congestion else p.congestion)
congestion_after (Logged kept) p = p.congestion
congestion_after Ticks p = if is_lost p then with_expiry p.mss (flight p) (is_first_expiry p) p.congestion else p.congestion
congestion_after Begins p = p.congestion

-- nothing new is sent from this offset on, except a probe: it is the right edge or the end of the congestion window, whichever comes first
abbrev pub send_edge : Point → ℕ
send_edge p = min p.edge (p.una + p.congestion.cwnd)

-- SND.NXT without a probe: all that may be sent is sent at once, up to that offset. SND.NXT never decreases
unfoldable pub sent_at_once : {State : Type 0} → Machine State → Point → Point → ℕ
sent_at_once service before after = max before.sent (min (target service after) (send_edge after))

-- the estimate of the round-trip time: the first unit that is sent for the first time in this turn is timed, if none is. A probe isn't
unfoldable pub timing_after : {State : Type 0} → Machine State → News → Point → Point → Timing
timing_after service news before after =
    if nat_lt before.sent (sent_at_once service before after)
    then with_sent (before.sent + 1 - after.una) (timing_noted news (resends news before) before after.una)
    else timing_noted news (resends news before) before after.una

-- SND.NXT. A probe adds one unit
unfoldable pub sent_after : {State : Type 0} → Machine State → News → Point → Point → ℕ
sent_after service news before after = sent_at_once service before after + one_if (probes news before)
