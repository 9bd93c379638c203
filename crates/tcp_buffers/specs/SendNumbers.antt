-- TCP's tests on a segment's acknowledgement and window, on numbers modulo 2^32 (RFC 9293, 3.4 and 3.10.7.4, fifth check), and what they do to the sender's
-- variables, the congestion window among them (RFC 5681; RFC 6582). `laws` states that they agree with the tests on offsets in seq_arith's Arrival.
use Rattle.std.specs.Prelude.{◌≡◌, ℕ, Bool, ◌+◌, ◌-◌, ◌*◌, ◌%◌, ◌^◌, ◌==◌, ◌&&◌, ◌||◌, not, min, if◌then◌else◌}
use Rattle.tcp_rules.specs.Congestion.{Congestion, with_new_data, with_duplicate, with_expiry}
use Rattle.seq_arith.specs.Number.{distance, precedes, precedes_or_is}
use Rattle.tcp_buffers.specs.declared.send_state.AckKind.{AckKind}
use Rattle.tcp_buffers.specs.declared.send_state.AckKind.TheVariants.{New, Old, Beyond}
use Rattle.tcp_buffers.specs.declared.send_state.SendState.{SendState}

-- SND.UNA < SEG.ACK =< SND.NXT
abbrev pub acks_new : ℕ → ℕ → ℕ → Bool
acks_new una nxt ack = precedes una ack && precedes_or_is ack nxt

-- SEG.ACK > SND.NXT
abbrev pub acks_beyond : ℕ → ℕ → Bool
acks_beyond nxt ack = precedes nxt ack

-- how an acknowledgement counts
abbrev pub kind_of : ℕ → ℕ → ℕ → AckKind
kind_of una nxt ack = if acks_beyond nxt ack then Beyond else (if acks_new una nxt ack then New (distance ack una) else Old)

-- the window is used: SND.UNA =< SEG.ACK =< SND.NXT, and either SND.WL1 < SEG.SEQ, or SND.WL1 = SEG.SEQ and SND.WL2 =< SEG.ACK
abbrev pub opens_window : ℕ → ℕ → ℕ → ℕ → ℕ → ℕ → Bool
opens_window una nxt wl1 wl2 seq ack =
    precedes_or_is una ack && precedes_or_is ack nxt && (precedes wl1 seq || (wl1 == seq && precedes_or_is wl2 ack))

-- SND.UNA after an acknowledgement
abbrev pub una_by : AckKind → ℕ → ℕ → ℕ
una_by (New units) una ack = ack
una_by kind una ack = una

-- an acknowledgement of new data sets the interval back to one tick
abbrev pub interval_by : AckKind → ℕ → ℕ
interval_by (New units) interval = 1
interval_by kind interval = interval

-- RFC 6298, 5.2 and 5.3: the timer stops once everything is acknowledged, and restarts otherwise
abbrev pub left_by : AckKind → ℕ → ℕ → ℕ → ℕ
left_by (New units) nxt ack left = if ack == nxt then 0 else 1
left_by kind nxt ack left = left

-- the right edge, as a number. It is stored as its distance from SND.UNA
abbrev pub edge_of : SendState → ℕ
edge_of s = (s.una.0 + s.wnd) % 2 ^ 32

-- whether a segment's window is used
abbrev pub is_window_used : SendState → ℕ → ℕ → Bool
is_window_used s seq ack = opens_window s.una.0 s.nxt.0 s.wl1.0 s.wl2.0 seq ack

-- the right edge after a segment: where its window isn't used the edge stays, even where SND.UNA moves
abbrev pub edge_after : SendState → ℕ → ℕ → ℕ → ℕ
edge_after s seq ack wnd = if is_window_used s seq ack then (ack + wnd) % 2 ^ 32 else edge_of s

-- the variables of congestion control
abbrev pub congestion_of : SendState → Congestion
congestion_of s = record { cwnd = s.cwnd; ssthresh = s.ssthresh; dups = s.dups; recovers = s.recovers; lost = s.lost }

abbrev pub with_congestion : SendState → Congestion → SendState
with_congestion s c = record s { cwnd = c.cwnd; ssthresh = c.ssthresh; dups = c.dups; recovers = c.recovers; lost = c.lost }

-- the segment size, but at most 2^31 - 1, so that twice as much fits 32 bits
abbrev pub segment_of : SendState → ℕ
segment_of s = min (2 ^ 31 - 1) s.mss

-- how many units are in flight
abbrev pub flight_of : SendState → ℕ
flight_of s = distance s.nxt.0 s.una.0

-- an acknowledgement of new data lets the congestion window grow, or ends fast recovery
abbrev pub congestion_by : AckKind → SendState → Congestion
congestion_by (New units) s = with_new_data (segment_of s) units (congestion_of s)
congestion_by kind s = congestion_of s

-- counts a duplicate acknowledgement
abbrev pub duplicated : SendState → SendState
duplicated s = with_congestion s (with_duplicate (segment_of s) (flight_of s) (congestion_of s))

-- something is in flight, and the peer's right edge is past SND.UNA
abbrev pub is_lost : SendState → Bool
is_lost s = not (s.una.0 == s.nxt.0) && precedes s.una.0 (edge_of s)

-- the timer expires, for the first time since its interval was computed or not: what is in flight counts as lost, if the peer's right edge is past SND.UNA
abbrev pub expired : (first : Bool) → SendState → SendState
expired first s = if is_lost s then with_congestion s (with_expiry (segment_of s) (flight_of s) first (congestion_of s)) else s

-- what a segment's number, acknowledgement and window do to the sender's variables
pub record IsUsed (old new : SendState) (seq ack wnd : ℕ) : Type 0 where
  pub una : new.una.0 ≡ una_by (kind_of old.una.0 old.nxt.0 ack) old.una.0 ack
  pub nxt : new.nxt ≡ old.nxt
  pub edge : edge_of new ≡ edge_after old seq ack wnd
  pub wl1 : new.wl1.0 ≡ (if is_window_used old seq ack then seq else old.wl1.0)
  pub wl2 : new.wl2.0 ≡ (if is_window_used old seq ack then ack else old.wl2.0)
  pub mss : new.mss ≡ old.mss
  pub congestion : congestion_of new ≡ congestion_by (kind_of old.una.0 old.nxt.0 ack) old
  pub interval : new.interval ≡ interval_by (kind_of old.una.0 old.nxt.0 ack) old.interval
  pub left : new.left ≡ left_by (kind_of old.una.0 old.nxt.0 ack) old.nxt.0 ack old.left

-- the interval after an expiry: twice as long, at most 64 ticks
abbrev pub doubled : ℕ → ℕ
doubled interval = min 64 (2 * interval)

-- a tick. The timer's last tick restarts it. At 0 the timer doesn't run
abbrev pub ticked_after : (first : Bool) → SendState → SendState
ticked_after first s =
    if s.left == 1 then record (expired first s) { interval = doubled s.interval; left = doubled s.interval } else record s { left = s.left - 1 }

-- the same where the interval is computed as one tick
abbrev pub ticked : SendState → SendState
ticked s = ticked_after (s.interval == 1) s
