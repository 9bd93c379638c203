-- What the news of a turn changes at once, before the service reads, and what a turn compares with the point before it.
use Rattle.limits.specs.Limits.{buffer_size, longest_stream}
use Rattle.std.specs.Prelude.{◌≡◌, ℕ, Bool, ◌+◌, ◌-◌, ◌*◌, ◌^◌, ◌==◌, ◌&&◌, ◌||◌, not, nat_lt, nat_le, min, length, if◌then◌else◌}
use Rattle.tcp_rules.specs.Timing.{Timing, with_sent}
use Rattle.ft_model.specs.News.{News}
use Rattle.ft_model.specs.Point.{Point}
use Rattle.ft_model.specs.Taken.{taken_after, early_after, fin_after}
use Rattle.ft_model.specs.Answered.{answered_after, reads_answered_after}
use Rattle.ft_model.specs.Sending.{syn_acked_after, acknowledged_after, edge_after, wl1_after, wl2_after, congestion_after, resends}
use Rattle.ft_model.specs.Timer.{timing_noted}
use Rattle.ft_model.specs.Timestamps.{timestamping_after}
use Rattle.plain_point.specs.declared.sending.Sending.{Sending}
use Rattle.plain_point.specs.declared.ending.Timer.{Timer}
use Rattle.plain_point.specs.Values.{congestion_in, timing_in}

-- the estimate of the round-trip time after the news, before anything is sent
abbrev pub timing_by : News → Point → Timing
timing_by news p = timing_noted news (resends news p) p (acknowledged_after news p)

abbrev pub noted : News → Point → Point
noted news p = record p {
  taken = taken_after news p;
  fin = fin_after news p;
  early = early_after news p;
  answered = answered_after news p;
  reads_answered = reads_answered_after news p;
  una = acknowledged_after news p;
  edge = edge_after news p;
  wl1 = wl1_after news p;
  wl2 = wl2_after news p;
  congestion = congestion_after news p;
  syn_acked = syn_acked_after news p;
  timing = timing_by news p;
  timestamping = timestamping_after news p;
}

-- what the sender knows after the news
pub record IsSendingAfter (news : News) (p : Point) (sending : Sending) : Type 0 where
  pub una : sending.una ≡ acknowledged_after news p
  pub edge : sending.edge ≡ edge_after news p
  pub wl1 : sending.wl1 ≡ wl1_after news p
  pub wl2 : sending.wl2 ≡ wl2_after news p
  pub congestion : congestion_in sending.congestion ≡ congestion_after news p
  pub syn_acked : sending.syn_acked ≡ syn_acked_after news p
  pub timing : timing_in sending.timing ≡ timing_by news p

-- whether the service may read on, after all its reads have made `made` bytes of output, and the answered ones `released` bytes
abbrev pub may_read_at : (made released : ℕ) → Point → Bool
may_read_at made released p = nat_le made (min released (p.una + buffer_size)) && nat_le made (longest_stream - 2 ^ 20)
    && nat_lt (length p.lengths - p.reads_answered) 32

-- the timer before a turn
abbrev pub timer_of : Point → Timer
timer_of p = record { una = p.una; syn_acked = p.syn_acked; interval = p.interval; rest = p.rest }

abbrev pub is_set_anew_since : Timer → Point → Bool
is_set_anew_since timer p = timer.rest == 0 || (nat_lt timer.una p.una || (p.syn_acked && not timer.syn_acked))

abbrev pub expires_since : Bool → Timer → Bool
expires_since ticks timer = ticks && timer.rest == 1

-- the interval of the timer and the remaining ticks after a turn, given whether the turn is a tick and whether the timer must run
abbrev pub interval_since : (ticks : Bool) → Timer → Point → ℕ
interval_since ticks timer p = if is_set_anew_since timer p then p.timing.base
    else (if expires_since ticks timer then min 64 (2 * timer.interval) else timer.interval)

abbrev pub rest_since : (must_run ticks : Bool) → Timer → Point → ℕ
rest_since must_run ticks timer p =
    if must_run
    then (if is_set_anew_since timer p || expires_since ticks timer then interval_since ticks timer p else (if ticks then timer.rest - 1 else timer.rest))
    else 0

-- the estimate of the round-trip time after a turn in which SND.NXT rises from `sent` to `at_once`, not counting a probe: the first new unit is timed
abbrev pub timing_since : (sent at_once : ℕ) → Point → Timing
timing_since sent at_once p = if nat_lt sent at_once then with_sent (sent + 1 - p.una) p.timing else p.timing
