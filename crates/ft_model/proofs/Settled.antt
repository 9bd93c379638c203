-- The point after a turn, put together from its laws: first what the news change, then the reads, then what is settled at the end.
use Rattle.std.proofs.Common.{ℕ, false, List, [], ◌∷◌, ◌++◌}
use Rattle.server_trait.specs.Service.{Machine}
use Rattle.ft_model.specs.News.{News}
use Rattle.ft_model.specs.Point.{Point}
use Rattle.ft_model.specs.Taken.{taken_after, early_after, fin_after}
use Rattle.ft_model.specs.Answered.{answered_after, reads_answered_after}
use Rattle.ft_model.specs.Reads.{Makes, next_length, may_read}
use Rattle.ft_model.specs.Timer.{interval_after, rest_after}
use Rattle.tcp_rules.specs.Timing.{Timing}
use Rattle.ft_model.specs.Sending.{syn_acked_after, acknowledged_after, edge_after, wl1_after, wl2_after, congestion_after, sent_after, timing_after}
use Rattle.ft_model.specs.ResetAndEnd.{end_ticks_after}
use Rattle.ft_model.specs.Timestamps.{timestamping_after}

-- the point after the news are noted, with these lengths and with what is settled at the end of the turn left open
abbrev pub noted : News → Point → List ℕ → (sent : ℕ) → Timing → (interval rest end_ticks : ℕ) → Point
noted news p lengths sent timing interval rest end_ticks = record {
  key = p.key;
  cisn = p.cisn;
  sisn = p.sisn;
  mss = p.mss;
  fetched = p.fetched;
  fetched_output = p.fetched_output;
  taken = taken_after news p;
  fin = fin_after news p;
  early = early_after news p;
  answered = answered_after news p;
  lengths = lengths;
  reads_answered = reads_answered_after news p;
  una = acknowledged_after news p;
  sent = sent;
  edge = edge_after news p;
  wl1 = wl1_after news p;
  wl2 = wl2_after news p;
  congestion = congestion_after news p;
  syn_acked = syn_acked_after news p;
  timing = timing;
  timestamping = timestamping_after news p;
  delays = p.delays;
  batches = p.batches;
  interval = interval;
  rest = rest;
  end_ticks = end_ticks;
  reset = false;
}

-- the point after a turn, as far as it hangs on the lengths of all reads alone
abbrev pub settled : {State : Type 0} → Machine State → News → Point → List ℕ → Point
settled service news p lengths =
    let plain : Point = noted news p lengths 0 p.timing 0 0 0 in
    let sent : ℕ = sent_after service news p plain in
    let timing : Timing = timing_after service news p plain in
    noted news p lengths sent timing (interval_after news p (noted news p lengths 0 timing 0 0 0)) (rest_after service news p (noted news p lengths sent timing 0 0 0)) (end_ticks_after service news p plain)

-- which reads are made doesn't hang on what is settled at the end
pub makes_alike : {State : Type 0} (service : Machine State) (news : News) (p : Point) (ns lengths : List ℕ) (sent : ℕ) (timing : Timing) (interval rest end_ticks sent' : ℕ) (timing' : Timing) (interval' rest' end_ticks' : ℕ)
    → Makes service (noted news p lengths sent timing interval rest end_ticks) ns → Makes service (noted news p lengths sent' timing' interval' rest' end_ticks') ns
unfolding next_length may_read
makes_alike service news p [] lengths sent timing interval rest end_ticks sent' timing' interval' rest' end_ticks' m = m
makes_alike service news p (n ∷ ns) lengths sent timing interval rest end_ticks sent' timing' interval' rest' end_ticks' m =
    (m.0, makes_alike service news p ns (lengths ++ n ∷ []) sent timing interval rest end_ticks sent' timing' interval' rest' end_ticks' m.1)
