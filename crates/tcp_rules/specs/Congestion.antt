-- Congestion control (RFC 5681, 3.1 and 3.2; RFC 6582, 3.2): how far past SND.UNA new data may be sent, and how acknowledgements and losses change that.
-- `mss` is the segment size, and `flight` is what is sent and not acknowledged. All counts are in units, and divisions are of whole numbers.
use Rattle.std.specs.Prelude.{ℕ, Bool, ◌≤◌, ◌+◌, ◌-◌, ◌*◌, ◌/◌, ◌^◌, ◌==◌, ◌&&◌, not, nat_le, nat_lt, max, min, if◌then◌else◌}

pub record Congestion : Type 0 where
  pub cwnd : ℕ  -- the congestion window
  pub ssthresh : ℕ  -- the slow start threshold
  pub dups : ℕ  -- the duplicate acknowledgements since SND.UNA rose or the timer expired with a loss, up to four
  pub recovers : Bool  -- whether the losses of one flight are recovered one after another. It never changes
  pub lost : ℕ  -- the units after SND.UNA that were sent when a loss was noticed; 0 once they are acknowledged, and for a sender that doesn't recover so

-- the congestion window is never above this
abbrev pub most_window : ℕ
most_window = 2 ^ 20

-- the initial window: four segments, or three where a segment has more than 1,095 bytes (3.1)
abbrev pub initial_window : (mss : ℕ) → ℕ
initial_window mss = if nat_le mss 1095 then 4 * mss else 3 * mss

abbrev pub initial_congestion : (recovers : Bool) → (mss : ℕ) → Congestion
initial_congestion recovers mss = record { cwnd = initial_window mss; ssthresh = 65535; dups = 0; recovers = recovers; lost = 0 }

-- below the threshold slow start adds what was acknowledged, up to a segment (3.1, equation 2); otherwise congestion avoidance adds a segment for each window
-- (3.1, equation 3). A congestion window is never 0, so it doesn't matter that the divisor is at least 1
abbrev pub growth : (mss units : ℕ) → Congestion → ℕ
growth mss units c = if nat_lt c.cwnd c.ssthresh then min units mss else max 1 (mss * mss / max 1 c.cwnd)

-- what was in flight when a loss was noticed isn't all acknowledged yet
abbrev pub is_recovering : Congestion → Bool
is_recovering c = c.recovers && nat_lt 0 c.lost

-- a partial acknowledgement: something that was sent before a loss was noticed stays unacknowledged, so the next segment counts as lost too (RFC 6582, 3.2)
abbrev pub is_partial : (units : ℕ) → Congestion → Bool
is_partial units c = c.recovers && nat_lt units c.lost

-- at a partial acknowledgement fast recovery continues: the window shrinks by what is acknowledged, and grows by a segment (RFC 6582, 3.2, step 3)
abbrev pub deflated : (mss units : ℕ) → Congestion → ℕ
deflated mss units c = max mss (c.cwnd - units) + (if nat_le mss units then mss else 0)

-- `units` units are newly acknowledged: after three or more duplicates fast recovery ends (3.2, step 6) or continues, and otherwise the window grows
unfoldable pub with_new_data : (mss units : ℕ) → Congestion → Congestion
with_new_data mss units c =
    record c {
      cwnd = min most_window (if nat_le 3 c.dups then (if is_partial units c then deflated mss units c else c.ssthresh) else c.cwnd + growth mss units c);
      dups = if is_partial units c && nat_le 3 c.dups then c.dups else 0;
      lost = if is_partial units c then c.lost - units else 0;
    }

-- the threshold after a loss: half of the flight, but at least two segments (3.1, equation 4)
abbrev pub lowered_threshold : (mss flight : ℕ) → ℕ
lowered_threshold mss flight = max (flight / 2) (2 * mss)

-- The third duplicate in a row: a segment counts as lost, and is retransmitted at once. What was in flight when a loss was noticed is recovered by partial
-- acknowledgements, so no duplicate counts as the third until all of it is acknowledged
unfoldable pub is_third : Congestion → Bool
is_third c = not (is_recovering c) && c.dups == 2

-- A duplicate acknowledgement arrives. The third begins fast recovery: three segments have left the network (3.2, steps 2 and 3). At each further one another
-- segment has left it (3.2, step 4). The count stays two where there is no third
unfoldable pub with_duplicate : (mss flight : ℕ) → Congestion → Congestion
with_duplicate mss flight c =
    if nat_le 3 c.dups then record c { cwnd = min most_window (c.cwnd + mss); dups = 4 }
    else (if is_third c
    then record c {
      cwnd = min most_window (lowered_threshold mss flight + 3 * mss);
      ssthresh = lowered_threshold mss flight;
      dups = 3;
      lost = if c.recovers then flight else 0;
    }
    else record c { dups = if is_recovering c then min 2 (c.dups + 1) else c.dups + 1 })

-- The timer expires: all that is in flight counts as lost (3.1). Only the first expiry lowers the threshold. It stays the same at further expiries, while the
-- same segment is retransmitted
unfoldable pub with_expiry : (mss flight : ℕ) → (first : Bool) → Congestion → Congestion
with_expiry mss flight first c =
    record c {
      cwnd = min most_window mss;
      ssthresh = if first then lowered_threshold mss flight else c.ssthresh;
      dups = 0;
      lost = if c.recovers then flight
          else 0;
    }

-- neither window nor threshold is 0, so that something may always be sent where nothing is in flight
pub record IsOpen (mss : ℕ) (c : Congestion) : Type 0 where
  pub segment : 1 ≤ mss
  pub window : 1 ≤ c.cwnd
  pub threshold : 1 ≤ c.ssthresh
