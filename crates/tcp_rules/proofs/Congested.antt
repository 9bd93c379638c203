-- Neither the congestion window nor the threshold is ever 0, and the window keeps to its most.
use Rattle.std.proofs.Common.{ℕ, ◌≤◌, ◌+◌, ◌-◌, ◌*◌, max, Bool, true, false, min, arith, if◌then◌else◌}
use Rattle.std.specs.Prelude.{nat_le}
use Rattle.tcp_rules.specs.Congestion.{Congestion, most_window, initial_window, initial_congestion, growth, is_recovering, is_partial, with_new_data, lowered_threshold, is_third, with_duplicate, with_expiry, IsOpen}

wide_open : (few : Bool) (mss : ℕ) → 1 ≤ mss → 1 ≤ (if few then 4 * mss else 3 * mss)
wide_open true mss s = omega (arith, s)
wide_open false mss s = omega (arith, s)

opens_window : (mss : ℕ) → 1 ≤ mss → 1 ≤ initial_window mss
opens_window mss s = wide_open (nat_le mss 1095) mss s

pub opens : (recovers : Bool) (mss : ℕ) → 1 ≤ mss → IsOpen mss (initial_congestion recovers mss)
opens recovers mss s = record { segment = s; window = opens_window mss s; threshold = omega arith }

grown_open : (recovers partial : Bool) (mss units ssthresh cwnd bonus more : ℕ) → 1 ≤ mss → 1 ≤ ssthresh → 1 ≤ cwnd
    → 1 ≤ min most_window (if recovers then (if partial then max mss (cwnd - units) + bonus else ssthresh) else cwnd + more)
grown_open true true mss units ssthresh cwnd bonus more s t w = omega (arith, s)
grown_open true false mss units ssthresh cwnd bonus more s t w = omega (arith, t)
grown_open false partial mss units ssthresh cwnd bonus more s t w = omega (arith, w)

pub new_data_open : (mss units : ℕ) (c : Congestion) → IsOpen mss c → IsOpen mss (with_new_data mss units c)
unfolding with_new_data
new_data_open mss units c o =
    record { segment = o.segment; window = grown_open (nat_le 3 c.dups) (is_partial units c) mss units c.ssthresh c.cwnd (if nat_le mss units then mss else 0) (growth mss units c) o.segment o.threshold o.window; threshold = o.threshold }

lowered_open : (mss flight : ℕ) → 1 ≤ mss → 1 ≤ lowered_threshold mss flight
lowered_open mss flight s = omega (arith, s)

recovers_open : (third : Bool) (mss flight : ℕ) (c : Congestion) → IsOpen mss c
    → IsOpen mss (if third then record c { cwnd = min most_window (lowered_threshold mss flight + 3 * mss); ssthresh = lowered_threshold mss flight; dups = 3; lost = if c.recovers then flight else 0 }
    else record c { dups = if is_recovering c then min 2 (c.dups + 1) else c.dups + 1 })
recovers_open true mss flight c o = record { segment = o.segment; window = omega (arith, o.segment); threshold = lowered_open mss flight o.segment }
recovers_open false mss flight c o = record { segment = o.segment; window = o.window; threshold = o.threshold }

counted_open : (many : Bool) (mss flight : ℕ) (c : Congestion) → IsOpen mss c
    → IsOpen mss (if many then record c { cwnd = min most_window (c.cwnd + mss); dups = 4 }
    else (if is_third c
    then record c { cwnd = min most_window (lowered_threshold mss flight + 3 * mss); ssthresh = lowered_threshold mss flight; dups = 3; lost = if c.recovers then flight else 0 }
    else record c { dups = if is_recovering c then min 2 (c.dups + 1) else c.dups + 1 }))
counted_open true mss flight c o = record { segment = o.segment; window = omega (arith, o.window); threshold = o.threshold }
counted_open false mss flight c o = recovers_open (is_third c) mss flight c o

pub duplicate_open : (mss flight : ℕ) (c : Congestion) → IsOpen mss c → IsOpen mss (with_duplicate mss flight c)
unfolding with_duplicate
duplicate_open mss flight c o = counted_open (nat_le 3 c.dups) mss flight c o

threshold_open : (first : Bool) (mss flight ssthresh : ℕ) → 1 ≤ mss → 1 ≤ ssthresh → 1 ≤ (if first then lowered_threshold mss flight else ssthresh)
threshold_open true mss flight ssthresh s t = lowered_open mss flight s
threshold_open false mss flight ssthresh s t = t

pub expiry_open : (mss flight : ℕ) (first : Bool) (c : Congestion) → IsOpen mss c → IsOpen mss (with_expiry mss flight first c)
unfolding with_expiry
expiry_open mss flight first c o =
    record { segment = o.segment; window = omega (arith, o.segment); threshold = threshold_open first mss flight c.ssthresh o.segment o.threshold }

pub new_data_bounded : (mss units : ℕ) (c : Congestion) → (with_new_data mss units c).cwnd ≤ most_window
unfolding with_new_data
new_data_bounded mss units c = omega arith

counted_bounded : (many third : Bool) (mss flight : ℕ) (c : Congestion) → c.cwnd ≤ most_window
    → (if many then record c { cwnd = min most_window (c.cwnd + mss); dups = 4 }
    else (if third
    then record c { cwnd = min most_window (lowered_threshold mss flight + 3 * mss); ssthresh = lowered_threshold mss flight; dups = 3; lost = if c.recovers then flight else 0 }
    else record c { dups = if is_recovering c then min 2 (c.dups + 1) else c.dups + 1 })).cwnd ≤ most_window
counted_bounded true third mss flight c b = omega arith
counted_bounded false true mss flight c b = omega arith
counted_bounded false false mss flight c b = b

pub duplicate_bounded : (mss flight : ℕ) (c : Congestion) → c.cwnd ≤ most_window → (with_duplicate mss flight c).cwnd ≤ most_window
unfolding with_duplicate
duplicate_bounded mss flight c b = counted_bounded (nat_le 3 c.dups) (is_third c) mss flight c b

pub expiry_bounded : (mss flight : ℕ) (first : Bool) (c : Congestion) → (with_expiry mss flight first c).cwnd ≤ most_window
unfolding with_expiry
expiry_bounded mss flight first c = omega arith
