-- What a segment and a flush do to an endpoint, in the endpoint's own terms: one definition for each sentence of the model's laws, and not for each check in
-- `tcp_endpoint`'s `Arrival` and `Output`. The laws are Taken and Sending, the one on pending ACKs, and that of the timer. They hold of passive and active
-- opens. For passive ones, `Refinement` states the same in the model's own definitions. The endpoint's limit bounds the right edge of its window in place of
-- 2^24, and the target is the bytes written, and one more once the user has closed.
use Rattle.limits.specs.Limits.{buffer_size, longest_stream}
use Rattle.std.specs.Prelude.{◌≡◌, ℕ, Bool, true, false, pos, ◌+◌, ◌-◌, ◌*◌, ◌^◌, ◌<◌, ◌≤◌, ◌-ℤ◌, ◌≤ℤ◌, ◌==◌, ◌&&◌, ◌||◌, not, nat_lt, int_lt, int_le}
use Rattle.std.specs.Prelude.{max, min, nat_abs, length, if◌then◌else◌}
use Rattle.seq_arith.specs.Number.{offset_of}
use Rattle.tcp_rules.specs.Arrival.{int_eq, is_acceptable_or_at_edge, is_usable, is_beyond, una_after, updates_window}
use Rattle.seq_arith.specs.Packet.{Segment, has_syn, has_rst, has_ack}
use Rattle.seq_arith.specs.Offset.{one_if, text_of, fin_of, length_of}
use Rattle.tcp_rules.specs.Coming.{StandsBehind}
use Rattle.tcp_rules.specs.Congestion.{Congestion, is_partial, with_new_data, is_third, with_duplicate, with_expiry, IsOpen}
use Rattle.tcp_rules.specs.Timing.{Timing, with_acknowledged, with_tick, without_trip, with_backoff, with_sent}
use Rattle.tcp_buffers.specs.Near.{IsNearFirst}
use Rattle.tcp_endpoint.specs.ReceiveHalf.{Receiving, taken, next, receive_edge, advertised_edge, with_segment}
use Rattle.tcp_endpoint.specs.SendHalf.{Sending, target}
use Rattle.tcp_endpoint.specs.Tcb.{Tcb}
use Rattle.tcp_endpoint.specs.Arrival.{first, ack_at}

-- Taken: acceptable by the next number and the advertised edge, or at that edge, ..
abbrev pub accepts : Tcb → Segment → Bool
accepts e p = is_acceptable_or_at_edge (next e.receiving) (advertised_edge e.receiving - next e.receiving) (first e p) (length_of p)

-- .. or at the next number while the window is zero
abbrev pub uses : Tcb → Segment → Bool
uses e p = is_usable (next e.receiving) (advertised_edge e.receiving - next e.receiving) (first e p) (length_of p)

-- a segment acknowledges something that was never sent (RFC 9293, 3.10.7.4, fifth check)
abbrev pub acknowledges_unsent : Tcb → Segment → Bool
acknowledges_unsent e p = is_beyond e.sending.sent (ack_at e p)

-- a segment counts where it has ACK and neither SYN nor RST, is used by its place, acknowledges nothing that was never sent, and, where no acknowledgement has
-- counted yet, acknowledges the SYN
abbrev pub counts : Tcb → Segment → Bool
counts e p =
    has_ack p && not (has_syn p) && not (has_rst p) && uses e p && (e.sending.syn_acked || int_le (pos 0) (ack_at e p)) && not (acknowledges_unsent e p)

-- Taken: what the text and the FIN of a segment that counts do to the stream. Nothing else changes what is taken or held
unfoldable pub taken_by : Tcb → Segment → Receiving
taken_by e p = if counts e p then with_segment e.receiving (first e p) (text_of p) (fin_of p) else e.receiving

-- Sending: the acknowledgement of a segment that counts is used where it names an offset of our stream
abbrev pub acknowledges : Tcb → Segment → Bool
acknowledges e p = counts e p && int_le (pos 0) (ack_at e p)

-- whether the window is used: by TCP's test for older segments, and always where no acknowledgement has counted yet
abbrev pub uses_window : Tcb → Segment → Bool
uses_window e p =
    acknowledges e p
    && (not e.sending.syn_acked
    || updates_window e.sending.una (offset_of e.receiving.irs e.sending.wl1) e.sending.wl2 (first e p) (nat_abs (ack_at e p)))

-- Sending: a duplicate acknowledgement (RFC 5681, 2). It is used, its segment has neither text nor FIN, it acknowledges what is acknowledged already while
-- something is in flight, and it has the same right edge
abbrev pub is_duplicate : Tcb → Segment → Bool
is_duplicate e p =
    acknowledges e p
    && length (text_of p) == 0
    && not (fin_of p)
    && nat_abs (ack_at e p) == e.sending.una
    && nat_lt e.sending.una e.sending.sent
    && nat_abs (ack_at e p) + p.head.window == e.sending.edge

-- .. the third in a row
abbrev pub is_third_duplicate : Tcb → Segment → Bool
is_third_duplicate e p = is_duplicate e p && is_third e.sending.congestion

-- .. and an acknowledgement of only a part of what was in flight when a loss was noticed (RFC 6582, 3.2)
abbrev pub is_partial_ack : Tcb → Segment → Bool
is_partial_ack e p =
    acknowledges e p && nat_lt e.sending.una (nat_abs (ack_at e p)) && is_partial (nat_abs (ack_at e p) - e.sending.una) e.sending.congestion

-- Both show that the first unacknowledged segment is lost
abbrev pub shows_loss : Tcb → Segment → Bool
shows_loss e p = is_third_duplicate e p || is_partial_ack e p

-- Timer: the estimate after a segment, where SND.UNA is then `una`. A round trip is measured when the timed unit is acknowledged, and what is retransmitted
-- isn't timed
abbrev pub timing_by : Tcb → Segment → (una : ℕ) → Timing
timing_by e p una =
    if shows_loss e p then without_trip (with_acknowledged (una - e.sending.una) e.sending.timing) else with_acknowledged (una - e.sending.una) e.sending.timing

-- Sending: what a segment does to the congestion window, the slow start threshold and the count of duplicates
abbrev pub congestion_by : Tcb → Segment → Congestion
congestion_by e p =
    if acknowledges e p && nat_lt e.sending.una (nat_abs (ack_at e p))
    then with_new_data e.sending.mss (nat_abs (ack_at e p) - e.sending.una) e.sending.congestion
    else (if is_duplicate e p then with_duplicate e.sending.mss (e.sending.sent - e.sending.una) e.sending.congestion else e.sending.congestion)

-- the timer hasn't expired since its interval was last computed
abbrev pub is_first_expiry : Sending → Bool
is_first_expiry s = if s.timing.measures then not s.timing.backed_off else s.interval == 1

-- Sending: what a tick does to them. Where the timer expires, what is in flight counts as lost if the right edge is past SND.UNA
abbrev pub congestion_ticked : Sending → Congestion
congestion_ticked s =
    if s.rest == 1 && nat_lt s.una s.sent && nat_lt s.una s.edge then with_expiry s.mss (s.sent - s.una) (is_first_expiry s) s.congestion
    else s.congestion

-- Timer: what a tick does to the estimate. An expiry backs the interval off
abbrev pub timing_ticked : Sending → Timing
timing_ticked s = if s.rest == 1 then with_backoff (min 64 (2 * s.interval)) s.timing else with_tick s.timing

-- Sending, field by field. The right edge is absolute: it stays where only SND.UNA moves
pub record IsSentBy (e : Tcb) (p : Segment) (after : Sending) : Type 0 where
  pub iss : after.iss ≡ e.sending.iss
  pub syn_acked : after.syn_acked ≡ (e.sending.syn_acked || counts e p)
  pub una : after.una ≡ (if acknowledges e p then una_after e.sending.una (nat_abs (ack_at e p)) else e.sending.una)
  pub sent : after.sent ≡ e.sending.sent
  pub edge : after.edge ≡ (if uses_window e p then nat_abs (ack_at e p) + p.head.window else e.sending.edge)
  pub wl1 : offset_of e.receiving.irs after.wl1 ≡ (if uses_window e p then first e p else offset_of e.receiving.irs e.sending.wl1)
  pub wl2 : after.wl2 ≡ (if uses_window e p then nat_abs (ack_at e p) else e.sending.wl2)
  pub congestion : after.congestion ≡ congestion_by e p
  pub timing : after.timing ≡ timing_by e p after.una
  pub held : after.una + length after.held ≡ max after.una (e.sending.una + length e.sending.held)
  pub closed : after.closed ≡ e.sending.closed

-- a packet that acknowledges nothing far before our stream; its fields fit their bytes
pub record IsUsual (e : Tcb) (p : Segment) : Type 0 where
  pub near : has_ack p ≡ true → (pos 0 -ℤ pos (2 ^ 30 + longest_stream)) ≤ℤ ack_at e p
  pub seq : p.head.seq < 2 ^ 32
  pub window : p.head.window ≤ 65535
  pub text : length p.payload ≤ 65535

-- no interval that is computed is empty, and a unit that is timed isn't acknowledged
pub record KeepsTime (t : Timing) : Type 0 where
  pub base : 1 ≤ t.base
  pub ahead : t.timed ≡ true → 1 ≤ t.ahead

-- The bounds of an endpoint's halves, where its limit is at most 2^24 bytes and its user has written at most 2^24. Our FIN counts as one more unit
pub record Bounds (r : Receiving) (s : Sending) : Type 0 where
  pub limit : r.limit ≤ longest_stream
  pub early : StandsBehind (taken r) (receive_edge r) r.fin r.early
  pub taken : taken r ≤ r.limit
  pub order : s.una ≤ s.sent
  pub syn_unacked : s.syn_acked ≡ false → s.sent ≡ 0
  pub shut : s.syn_acked ≡ false → s.edge ≡ 0
  pub flight : s.sent ≤ s.una + length s.held + one_if s.fin_sent
  pub written : s.una + length s.held ≤ longest_stream + one_if s.fin_sent
  pub sent : s.sent ≤ longest_stream + one_if s.fin_sent
  pub wl1 : s.syn_acked ≡ true → IsNearFirst (offset_of r.irs s.wl1)
  pub wl1_fits : s.wl1 ≤ 2 ^ 32 - 1
  pub wl2 : s.wl2 ≤ s.una
  pub edge : s.edge ≤ longest_stream + 2 ^ 16 + 1
  pub reach : s.edge ≤ s.una + buffer_size
  pub congestion : IsOpen s.mss s.congestion
  pub lost : s.congestion.lost ≤ s.sent - s.una
  pub timing : KeepsTime s.timing
  pub interval : 1 ≤ s.interval

abbrev pub IsBounded : Tcb → Type 0
IsBounded e = Bounds e.receiving e.sending

-- Sending: where a probe is due, all that was sent is acknowledged, something is waiting, and the edge leaves no room
pub record ProbesRightly (e : Tcb) : Type 0 where
  pub all_acked : e.probe ≡ true → e.sending.una ≡ e.sending.sent
  pub shut : e.probe ≡ true → e.sending.edge ≤ e.sending.sent
  pub waits : e.probe ≡ true → e.sending.sent + 1 ≤ target e.sending
  pub syn_acked : e.probe ≡ true → e.sending.syn_acked ≡ true

-- Sending: all that may be sent, up to the right edge and the end of the congestion window, never less than before, and one unit more at a probe
abbrev pub sent_by_law : Tcb → ℕ
sent_by_law e =
    max e.sending.sent (min (target e.sending) (min e.sending.edge (e.sending.una + e.sending.congestion.cwnd))) + one_if e.probe

-- Timer: the estimate at the end of a turn. The first unit that is sent for the first time is timed, if none is. A probe isn't
abbrev pub timing_at_end : Tcb → Timing
timing_at_end e =
    if nat_lt e.sending.sent (max e.sending.sent (min (target e.sending) (min e.sending.edge (e.sending.una + e.sending.congestion.cwnd))))
    then with_sent (e.sending.sent + 1 - e.sending.una) e.sending.timing
    else e.sending.timing

-- the SYN isn't acknowledged yet, and the segment has an acknowledgement of anything but the SYN
abbrev pub misses_syn : Tcb → Segment → Bool
misses_syn e p = not e.sending.syn_acked && has_ack p && (int_lt (ack_at e p) (pos 0) || acknowledges_unsent e p)

-- ACK pending: an acceptable segment that acknowledges anything but the SYN, while that is unacknowledged, gets a RST, and no ACK
abbrev pub is_refused : Tcb → Segment → Bool
is_refused e p = accepts e p && not (has_rst p) && not (has_syn p) && misses_syn e p

-- an acknowledgement of what was never sent
abbrev pub is_unsent_ack : Tcb → Segment → Bool
is_unsent_ack e p = has_ack p && acknowledges_unsent e p

-- ACK pending: among acceptable segments, a SYN, and a RST that isn't at the next number, get a challenge ACK. A segment with a length gets an ACK, and so does
-- one that acknowledges what was never sent
abbrev pub needs_ack_if_acceptable : Tcb → Segment → Bool
needs_ack_if_acceptable e p =
    if has_rst p then not (int_eq (first e p) (pos (next e.receiving)))
    else (if has_syn p then true else nat_lt 0 (length_of p) || is_unsent_ack e p)

-- ACK pending: each segment that isn't acceptable gets an ACK, unless it has RST
abbrev pub needs_ack : Tcb → Segment → Bool
needs_ack e p = if accepts e p then needs_ack_if_acceptable e p else not (has_rst p)

-- Timer: it starts again where it didn't run, or where something new was acknowledged, the SYN included
abbrev pub starts : Sending → Sending → Bool
starts before after = before.rest == 0 || nat_lt before.una after.una || (after.syn_acked && not before.syn_acked)

-- Timer: at the end of a turn with a segment. It starts with the interval of the estimate, `base`
abbrev pub interval_by : (runs starts : Bool) → (base : ℕ) → Sending → ℕ
interval_by runs starts base s = if runs then (if starts then base else s.interval) else base

abbrev pub rest_by : (runs starts : Bool) → (base : ℕ) → Sending → ℕ
rest_by runs starts base s = if runs then (if starts then base else s.rest) else 0

-- Timer: at the end of a turn with a tick. It doubles at each expiry, up to 64 ticks
abbrev pub ticked_interval : (runs : Bool) → (base : ℕ) → Sending → ℕ
ticked_interval runs base s = if runs then (if s.rest == 0 then base else (if s.rest == 1 then min 64 (2 * s.interval) else s.interval)) else base

abbrev pub ticked_rest : (runs : Bool) → (base : ℕ) → Sending → ℕ
ticked_rest runs base s = if runs then (if s.rest == 0 then base else (if s.rest == 1 then min 64 (2 * s.interval) else s.rest - 1)) else 0

-- the timer of a sending half
pub record IsTimedBy (s : Sending) (ticks left : ℕ) : Type 0 where
  pub interval : s.interval ≡ ticks
  pub rest : s.rest ≡ left

-- the acknowledgement and the edge last advertised
abbrev pub last_advertised : Tcb → ℕ × ℕ
last_advertised e = (e.last_ack_sent, e.last_advertised_edge)

-- ACK pending: a rule requires one, or the acknowledgement or the right edge differs from the one last sent
abbrev pub asks : Bool → Tcb → Bool
asks ack_pending e = ack_pending || not (e.last_ack_sent == next e.receiving) || not (e.last_advertised_edge == advertised_edge e.receiving)

-- where the timer runs and all that was sent is acknowledged, something is waiting that has no room below the edge
pub record IsShut (s : Sending) : Type 0 where
  pub edge : 1 ≤ s.rest → s.syn_acked ≡ true → s.una ≡ s.sent → s.edge ≤ s.sent
  pub waits : 1 ≤ s.rest → s.syn_acked ≡ true → s.una ≡ s.sent → s.sent + 1 ≤ target s
