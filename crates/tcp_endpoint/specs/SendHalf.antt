-- The sending half of a connection, in offsets of our stream: byte k has offset k, and a FIN counts as one more unit (RFC 9293, 3.3.1, send sequence variables,
-- and 3.10.7.4, fifth check; RFC 5681; RFC 6298; RFC 6582).
use Rattle.limits.specs.Limits.{buffer_size, largest_segment, least_segment}
use Rattle.std.specs.Prelude.{ℕ, ℤ, Bool, true, false, pos, ◌+◌, ◌-◌, ◌*◌, ◌%◌, ◌^◌, ◌<◌, ◌≤◌, ◌==◌, ◌&&◌, ◌||◌, not, nat_lt, nat_le, int_le, min}
use Rattle.std.specs.Prelude.{max, nat_abs, List, [], length, drop, if◌then◌else◌}
use Rattle.tcp_rules.specs.Arrival.{int_eq, is_new_ack}
use Rattle.tcp_rules.specs.Congestion.{Congestion, initial_congestion, is_partial, with_new_data, is_third, with_duplicate, with_expiry}
use Rattle.seq_arith.specs.Number.{distance, precedes}
use Rattle.tcp_rules.specs.Timing.{Timing, first_base, initial_timing, with_acknowledged, with_tick, without_trip, with_backoff, with_sent as with_unit_sent}
use Rattle.tcp_buffers.specs.Near.{is_ahead}
use Rattle.tcp_buffers.specs.SendNumbers.{acks_new, edge_of, congestion_of}
use Rattle.tcp_buffers.specs.declared.send_state.AckKind.{AckKind}
use Rattle.tcp_buffers.specs.declared.send_state.AckKind.TheVariants.{New, Beyond}
use Rattle.tcp_buffers.specs.declared.send_state.SendState.{SendState}
use Rattle.seq_arith.specs.Offset.{one_if}
use Rattle.tcp_endpoint.specs.declared.sender.AckUse.{AckUse}
use Rattle.tcp_endpoint.specs.declared.sender.AckUse.TheVariants.{Ahead, Used, ShowsLoss}

pub record Sending : Type 0 where
  pub iss : ℕ  -- ISS: our initial sequence number
  pub syn_acked : Bool  -- whether the SYN is acknowledged
  pub una : ℕ  -- SND.UNA: the first offset that isn't acknowledged
  pub sent : ℕ  -- SND.NXT: the next offset to be sent
  pub edge : ℕ  -- SND.UNA + SND.WND: the peer's right edge. The peer has no room from there on
  pub wl1 : ℕ  -- SND.WL1: the sequence number of the segment that last set the edge
  pub wl2 : ℕ  -- SND.WL2: what that segment acknowledged, as an offset
  pub held : List ℕ  -- the bytes written and not acknowledged
  pub closed : Bool  -- whether the user has closed
  pub fin_sent : Bool  -- whether the FIN is sent
  pub mss : ℕ  -- the segment size, in bytes of text
  pub congestion : Congestion  -- the congestion window, the slow start threshold, and the duplicate acknowledgements
  pub timing : Timing  -- the estimate of the round-trip time
  pub interval : ℕ  -- of the timer, in ticks
  pub rest : ℕ  -- the ticks until the timer expires; 0 while it doesn't run

-- nothing is sent yet
abbrev pub sending_from : ℕ → Sending
sending_from iss = record {
  iss = iss;
  syn_acked = false;
  una = 0;
  sent = 0;
  edge = 0;
  wl1 = 0;
  wl2 = 0;
  held = [];
  closed = false;
  fin_sent = false;
  mss = 536;
  congestion = initial_congestion false 536;
  timing = initial_timing false;
  interval = 1;
  rest = 0;
}

-- the same of a sender that may measure round trips. One that does recovers the losses of one flight one after another
abbrev pub sending_measuring : (measures : Bool) → ℕ → Sending
sending_measuring measures iss =
    record (sending_from iss) { congestion = initial_congestion measures 536; timing = initial_timing measures; interval = first_base measures }

-- takes the segment size that the peer's SYN offers, and starts congestion control with it
abbrev pub with_segment_size : ℕ → Sending → Sending
with_segment_size mss s = record s { mss = mss; congestion = initial_congestion s.congestion.recovers mss }

-- our SYN, and nothing else, has been sent; a segment with number `seq` acknowledges it (3.10.7.3, fourth check; 3.10.7.4, fifth check)
abbrev pub with_syn_acked : Sending → ℕ → ℕ → Sending
with_syn_acked s seq window =
    record s { syn_acked = true; una = 0; sent = 0; edge = window; wl1 = seq; wl2 = 0; interval = s.timing.base; rest = 0 }

-- whether the window is used: SND.UNA =< SEG.ACK =< SND.NXT, and the segment isn't older than the segment that last moved the edge: either SND.WL1 < SEG.SEQ,
-- or SND.WL1 = SEG.SEQ and SND.WL2 =< SEG.ACK
abbrev pub moves_edge : Sending → ℕ → ℤ → Bool
moves_edge s seq ack =
    int_le (pos s.una) ack && int_le ack (pos s.sent) && (precedes s.wl1 seq || (s.wl1 == seq && nat_le s.wl2 (nat_abs ack)))

-- the estimate after an acknowledgement that isn't ahead of SND.NXT: a round trip is measured when the timed unit is acknowledged
abbrev pub timing_acknowledged : Sending → ℤ → Timing
timing_acknowledged s ack = if is_new_ack s.una s.sent ack then with_acknowledged (nat_abs ack - s.una) s.timing else s.timing

-- what such an acknowledgement does. Newly acknowledged bytes are dropped from the send queue. The timer then stops if nothing else is in flight, and otherwise
-- restarts (RFC 6298, 5.2 and 5.3). Where the window isn't used, the edge stays
unfoldable pub acknowledged : Sending → ℕ → ℤ → ℕ → Sending
acknowledged s seq ack window = record s {
  una = if is_new_ack s.una s.sent ack then nat_abs ack else s.una;
  held = if is_new_ack s.una s.sent ack then drop (nat_abs ack - s.una) s.held else s.held;
  timing = timing_acknowledged s ack;
  interval = if is_new_ack s.una s.sent ack then (timing_acknowledged s ack).base else s.interval;
  rest = if is_new_ack s.una s.sent ack then (if int_le (pos s.sent) ack then 0 else (timing_acknowledged s ack).base) else s.rest;
  edge = if moves_edge s seq ack then nat_abs ack + window else s.edge;
  wl1 = if moves_edge s seq ack then seq else s.wl1;
  wl2 = if moves_edge s seq ack then nat_abs ack else s.wl2;
  congestion = if is_new_ack s.una s.sent ack then with_new_data s.mss (nat_abs ack - s.una) s.congestion else s.congestion;
}

-- the units sent and not acknowledged
abbrev pub in_flight : Sending → ℕ
in_flight s = s.sent - s.una

-- A duplicate acknowledgement (RFC 5681, 2): `bare` says that its segment has neither text nor FIN. It acknowledges SND.UNA again while something is in
-- flight, with the same right edge
unfoldable pub is_duplicate : Sending → (bare : Bool) → ℤ → ℕ → Bool
is_duplicate s bare ack window = bare && int_eq ack (pos s.una) && nat_lt s.una s.sent && nat_abs ack + window == s.edge

-- the third duplicate in a row
abbrev pub is_third_duplicate : Sending → (bare : Bool) → ℤ → ℕ → Bool
is_third_duplicate s bare ack window = is_duplicate s bare ack window && is_third s.congestion

-- an acknowledgement of only a part of what was in flight when a loss was noticed (RFC 6582, 3.2)
abbrev pub is_partial_ack : Sending → ℤ → Bool
is_partial_ack s ack = is_new_ack s.una s.sent ack && is_partial (nat_abs ack - s.una) s.congestion

-- the acknowledgement shows that the first unacknowledged segment is lost, so that it is retransmitted at once
unfoldable pub shows_loss : Sending → (bare : Bool) → ℤ → ℕ → Bool
shows_loss s bare ack window = is_third_duplicate s bare ack window || is_partial_ack s ack

-- counts a duplicate
abbrev pub duplicated : Sending → Sending
duplicated s = record s { congestion = with_duplicate s.mss (in_flight s) s.congestion }

-- what is retransmitted isn't timed
abbrev pub untimed_if : Bool → Sending → Sending
untimed_if b s = record s { timing = if b then without_trip s.timing else s.timing }

-- all that an acknowledgement, a duplicate or not, does to the sender
unfoldable pub answered_by : Sending → (bare : Bool) → ℕ → ℤ → ℕ → Sending
answered_by s bare seq ack window =
    untimed_if (shows_loss s bare ack window)
    (if is_duplicate s bare ack window then duplicated (acknowledged s seq ack window) else acknowledged s seq ack window)

-- whether our FIN is acknowledged: it is the last unit that we ever send
abbrev pub fin_acked : Sending → Bool
fin_acked s = s.fin_sent && s.una == s.sent

-- the end of the bytes written. A FIN that is sent follows them
abbrev pub bytes_end : Sending → ℕ
bytes_end s = if s.fin_sent then s.sent - 1 else s.una + length s.held

-- the end of what is to be sent: the bytes written, and a FIN once the user has closed
abbrev pub target : Sending → ℕ
target s = if s.fin_sent then s.sent else s.una + length s.held + one_if s.closed

-- whether something sent is unacknowledged: the SYN, text or the FIN
abbrev pub is_unacknowledged : Sending → Bool
is_unacknowledged s = not s.syn_acked || nat_lt s.una s.sent

-- the timer expires at this tick, and restarts with twice the interval, at most 64 ticks
abbrev pub expires : Sending → Bool
expires s = s.rest == 1

-- at such an expiry what is in flight counts as lost, if the peer's right edge is past SND.UNA
abbrev pub is_lost : Sending → Bool
is_lost s = nat_lt s.una s.sent && precedes s.una s.edge

-- the timer hasn't expired since its interval was last computed
abbrev pub is_first_expiry : Sending → Bool
is_first_expiry s = if s.timing.measures then not s.timing.backed_off else s.interval == 1

abbrev pub congestion_expired : Sending → Congestion
congestion_expired s = if is_lost s then with_expiry s.mss (in_flight s) (is_first_expiry s) s.congestion else s.congestion

abbrev pub ticked : Sending → Sending
ticked s =
    if expires s
    then record s {
      congestion = congestion_expired s;
      timing = with_backoff (min 64 (2 * s.interval)) s.timing;
      interval = min 64 (2 * s.interval);
      rest = min 64 (2 * s.interval);
    }
    else record s { timing = with_tick s.timing; rest = s.rest - 1 }

-- whether the timer must run: something is unacknowledged or waiting to be sent
abbrev pub must_run : Sending → Bool
must_run s = not s.syn_acked || nat_lt s.una (max s.sent (target s))

-- the timer after a turn: it starts with the interval of the estimate where it must run and doesn't, and stops where it needn't run
abbrev pub timed : Bool → Sending → Sending
timed runs s =
    if runs then (if s.rest == 0 then record s { interval = s.timing.base; rest = s.timing.base } else s)
    else record s { interval = s.timing.base; rest = 0 }

-- nothing new is sent from this offset on, except a probe: it is the right edge or the end of the congestion window, whichever comes first
abbrev pub send_edge : Sending → ℕ
send_edge s = min s.edge (s.una + s.congestion.cwnd)

-- how many bytes may be sent for the first time
abbrev pub sendable : Sending → ℕ
sendable s = if s.syn_acked && not s.fin_sent then min (s.una + length s.held) (send_edge s) - s.sent else 0

-- whether the FIN is sent: it follows all text, and there is room for it
abbrev pub sends_fin : Sending → Bool
sends_fin s = s.syn_acked && s.closed && not s.fin_sent && s.sent == s.una + length s.held && nat_lt s.sent (send_edge s)

-- how many bytes are retransmitted: at most one segment of what is in flight, and no more than the peer's room, which counts as at least one byte
abbrev pub resent_length : Sending → ℕ
resent_length s = min s.mss (min (min (in_flight s) (length s.held)) (max 1 (s.edge - s.una)))

abbrev pub with_sent : Sending → ℕ → Sending
with_sent s n = record s { sent = s.sent + n }

abbrev pub with_fin_sent : Sending → Sending
with_fin_sent s = record s { sent = s.sent + 1; fin_sent = true }

-- the unit that is `place` units after SND.UNA is timed, if it was sent by now and none is timed
abbrev pub with_unit_timed : (place : ℕ) → Sending → Sending
with_unit_timed place s = record s { timing = if nat_lt place (in_flight s) then with_unit_sent (place + 1) s.timing else s.timing }

-- the offset that a number of our stream names: byte 0 follows the SYN
abbrev pub own : ℕ → ℕ → ℕ
own iss number = distance number ((iss + 1) % 2 ^ 32)

-- what the sender's numbers mean in offsets
abbrev pub sending_of : (iss : ℕ) (syn_acked : Bool) → SendState → Timing → List ℕ → (closed fin_sent : Bool) → Sending
sending_of iss syn_acked n timing held closed fin_sent = record {
  iss = iss;
  syn_acked = syn_acked;
  una = own iss n.una.0;
  sent = own iss n.una.0 + distance n.nxt.0 n.una.0;
  edge = own iss (edge_of n);
  wl1 = n.wl1.0;
  wl2 = own iss n.wl2.0;
  held = held;
  closed = closed;
  fin_sent = fin_sent;
  mss = n.mss;
  congestion = congestion_of n;
  timing = timing;
  interval = n.interval;
  rest = n.left;
}

-- the invariant of a sender's fields: no more is in flight than the bytes written and not acknowledged, and the FIN. No interval is empty
pub record SenderInvariant (n : SendState) (held : List ℕ) (fin_sent : Bool) : Type 0 where
  pub flight : distance n.nxt.0 n.una.0 ≤ length held + one_if fin_sent
  pub queued : length held ≤ buffer_size
  pub least : least_segment ≤ n.mss
  pub most : n.mss ≤ largest_segment
  pub interval : 1 ≤ n.interval

-- the offsets are so small that numbers modulo 2^32 show their order
pub record IsShort (s : Sending) : Type 0 where
  pub sent : s.sent ≤ 2 ^ 30
  pub wl2 : s.wl2 ≤ 2 ^ 30

-- whether, by the numbers, an acknowledgement and a window only repeat the current ones while something is in flight
abbrev pub repeats : SendState → (ack window : ℕ) → Bool
repeats n ack window = ack == n.una.0 && not (n.una.0 == n.nxt.0) && n.wnd == window

-- whether, by the numbers, an acknowledgement is only of a part of what was in flight when a loss was noticed
abbrev pub acks_part : SendState → (ack : ℕ) → Bool
acks_part n ack = acks_new n.una.0 n.nxt.0 ack && is_partial (distance ack n.una.0) (congestion_of n)

-- how many units an acknowledgement newly acknowledges
abbrev pub units_of : AckKind → ℕ
units_of (New units) = units
units_of kind = 0

-- the estimate after an acknowledgement of this kind, ..
abbrev pub timing_by : AckKind → Timing → Timing
timing_by (New units) t = with_acknowledged units t
timing_by kind t = t

-- .. and the timer, which was restarted with some interval or stopped, and now has the interval of the estimate
abbrev pub interval_computed : AckKind → Timing → ℕ → ℕ
interval_computed (New units) t interval = (with_acknowledged units t).base
interval_computed kind t interval = interval

abbrev pub rest_computed : AckKind → Timing → ℕ → ℕ
rest_computed (New units) t rest = if rest == 0 then 0 else (with_acknowledged units t).base
rest_computed kind t rest = rest

abbrev pub restarted : AckKind → Timing → SendState → SendState
restarted kind t n = record n { interval = interval_computed kind t n.interval; left = rest_computed kind t n.left }

-- numbers are below 2^32, by their types
pub record NumbersFit (n : SendState) (segment acknowledgement : ℕ) : Type 0 where
  pub una : n.una.0 < 2 ^ 32
  pub nxt : n.nxt.0 < 2 ^ 32
  pub wnd : n.wnd < 2 ^ 32
  pub wl2 : n.wl2.0 < 2 ^ 32
  pub seq : segment < 2 ^ 32
  pub ack : acknowledgement < 2 ^ 32

-- whether an acknowledgement is only of what was sent
abbrev pub was_sent : AckKind → Bool
was_sent Beyond = false
was_sent kind = true

-- how an acknowledgement counts for the sender
abbrev pub use_of : Sending → (bare : Bool) → ℤ → ℕ → AckUse
use_of s bare ack window = if is_ahead s.sent ack then Ahead else (if shows_loss s bare ack window then ShowsLoss else Used)
