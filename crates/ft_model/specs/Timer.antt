-- The timer for retransmissions and probes (RFC 9293, 3.8.1 and 3.8.6.1; RFC 6298, 5, in ticks).
use Rattle.std.specs.Prelude.{ℕ, Bool, true, false, ◌-◌, ◌*◌, ◌==◌, ◌&&◌, ◌||◌, not, nat_lt, max, min, if◌then◌else◌}
use Rattle.tcp_rules.specs.Timing.{Timing, with_acknowledged, with_tick, without_trip, with_backoff}
use Rattle.server_trait.specs.Service.{Machine}
use Rattle.ft_model.specs.Point.{Point, target}
use Rattle.ft_model.specs.News.{News}
use Rattle.ft_model.specs.News.News.{Comes, Logged, Ticks, Begins}

abbrev pub is_tick : News → Bool
is_tick Ticks = true
is_tick (Comes segment) = false
is_tick (Logged kept) = false
is_tick Begins = false

-- the timer runs, and this tick is its last
abbrev pub expires : News → Point → Bool
expires news before = is_tick news && before.rest == 1

-- the timer expires with nothing unacknowledged, so one unit is sent past the edge
abbrev pub probes : News → Point → Bool
probes news before = expires news before && before.syn_acked && not (nat_lt before.una before.sent)

-- The timer must run while something is unacknowledged, the SYN included, or is waiting to be sent
unfoldable pub must_run : {State : Type 0} → Machine State → Point → Bool
must_run service p = not p.syn_acked || nat_lt p.una (max p.sent (target service p))

-- something new was acknowledged, the SYN included
abbrev pub is_renewed : Point → Point → Bool
is_renewed before after = nat_lt before.una after.una || (after.syn_acked && not before.syn_acked)

-- the timer's interval so far no longer counts: the timer didn't run, or something new was acknowledged. This doesn't say whether the timer runs now, so it
-- also holds of a timer that stays stopped
abbrev pub is_set_anew : Point → Point → Bool
is_set_anew before after = before.rest == 0 || is_renewed before after

-- The estimate after what arrives, where SND.UNA is then `una`: a round trip is measured when the timed unit is acknowledged, each tick counts, and an expiry
-- backs the interval off. What is retransmitted isn't timed
unfoldable pub timing_noted : News → (resends : Bool) → Point → (una : ℕ) → Timing
timing_noted (Comes segment) resends before una =
    if resends then without_trip (with_acknowledged (una - before.una) before.timing) else with_acknowledged (una - before.una) before.timing
timing_noted Ticks resends before una =
    if before.rest == 1 then with_backoff (min 64 (2 * before.interval)) before.timing else with_tick before.timing
timing_noted (Logged kept) resends before una = before.timing
timing_noted Begins resends before una = before.timing

-- the interval is the estimate's when the timer is restarted, and doubles at each expiry, up to 64
unfoldable pub interval_after : News → Point → Point → ℕ
interval_after news before after = if is_set_anew before after then after.timing.base
    else (if expires news before then min 64 (2 * before.interval) else before.interval)

-- the ticks left, if the timer must run: a full interval when it is restarted or has expired, and one less at each other tick
unfoldable pub rest_after : {State : Type 0} → Machine State → News → Point → Point → ℕ
rest_after service news before after =
    if must_run service after
    then (if is_set_anew before after || expires news before then interval_after news before after
    else (if is_tick news then before.rest - 1 else before.rest))
    else 0
