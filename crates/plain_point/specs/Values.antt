-- The code's values as those of the definitions.
use Rattle.std.specs.Prelude.{◌≡◌, Bool, true, false, Option, Some, None, List, [], ◌∷◌}
use Rattle.tcp_rules.specs.Congestion.{Congestion}
use Rattle.tcp_rules.specs.Timing as rules
use Rattle.seq_arith.specs.Message as said
use Rattle.seq_arith.specs.Message.Body.{DataMsg}
use Rattle.seq_arith.specs.Packet.{Segment}
use Rattle.ft_model.specs.Offset.{first_of}
use Rattle.ft_model.specs.Point.{Point}
use Rattle.ft_model.specs.Sending.{acknowledged_by, window_by}
use Rattle.plain_point.specs.declared.congestion.Window.{Window}
use Rattle.plain_point.specs.declared.copying.Data.{Data}
use Rattle.plain_point.specs.declared.sending.Acknowledged.{Acknowledged}
use Rattle.plain_point.specs.declared.timing.Timing.{Timing}

abbrev pub congestion_in : Window → Congestion
congestion_in w = record { cwnd = w.cwnd; ssthresh = w.ssthresh; dups = w.dups; recovers = w.recovers; lost = w.lost }

abbrev pub timing_in : Timing → rules.Timing
timing_in t = record {
  measures = t.measures;
  base = t.base;
  smoothed = t.smoothed;
  variation = t.variation;
  sampled = t.sampled;
  timed = t.timed;
  ahead = t.ahead;
  ticks = t.ticks;
  backed_off = t.backed_off;
}

abbrev pub data_in : Data → said.Part
data_in d = record { key = d.key; offset = d.offset; acked = d.acked; fin = d.fin; more = false; bytes = d.bytes.now }

-- a Data, or none
abbrev pub bodies_of : Option Data → List said.Body
bodies_of None = []
bodies_of (Some d) = DataMsg (data_in d) ∷ []

-- what a segment acknowledges, if its acknowledgement is used for something
abbrev pub IsAcknowledged : Bool → Point → Segment → Option Acknowledged → Type 0
IsAcknowledged used p segment None = used ≡ false
IsAcknowledged used p segment (Some a) =
    (used ≡ true) × (a.first ≡ first_of p.cisn segment) × (a.acked ≡ acknowledged_by p segment) × (a.window ≡ window_by p segment)
