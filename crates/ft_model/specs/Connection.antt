-- One live connection in one turn: how its point changes and what it sends. Each field of the point after the turn follows its own law.
use Rattle.std.specs.Prelude.{◌≡◌, ℕ, true, false, List, ◌++◌, map}
use Rattle.std.specs.Bool.{MatchBool}
use Rattle.ft_io.specs.declared.Addr.{Addr}
use Rattle.seq_arith.specs.Message.{Body}
use Rattle.server_trait.specs.Service.{Machine}
use Rattle.ft_model.specs.Network.{Packet}
use Rattle.ft_model.specs.Network.Packet.{To_client, To_logger}
use Rattle.ft_model.specs.Point.{Point}
use Rattle.ft_model.specs.News.{News}
use Rattle.ft_model.specs.Taken.{taken_after, early_after, fin_after}
use Rattle.ft_model.specs.Answered.{answered_after, reads_answered_after}
use Rattle.ft_model.specs.Reads.{MakesReads, reads_reported}
use Rattle.ft_model.specs.Sending.{syn_acked_after, acknowledged_after, edge_after, wl1_after, wl2_after, congestion_after, sent_after, timing_after}
use Rattle.ft_model.specs.Timer.{interval_after, rest_after}
use Rattle.ft_model.specs.Timestamps.{timestamping_after}
use Rattle.ft_model.specs.Segments.{segments_of}
use Rattle.ft_model.specs.Copy.{copies}
use Rattle.ft_model.specs.ResetAndEnd.{reset_after, end_ticks_after, dones}

-- a message to the logger, in this boot
abbrev pub reported_by : ℕ → Body → Packet
reported_by boot body = To_logger (record { boot = boot; body = body })

-- what a connection sends in one turn: its segments, then Data, then Reads by index, then Done
abbrev pub sent_by : {State : Type 0} → Machine State → Addr → (boot : ℕ) → News → Point → Point → List Packet
sent_by service server boot news before after =
    map To_client (segments_of service server news before after)
    ++ map (reported_by boot) (copies news before after ++ (reads_reported news before after ++ dones news before after))

-- the numbers of a connection never change
pub record IsSameConnection (before after : Point) : Type 0 where
  pub key : after.key ≡ before.key
  pub cisn : after.cisn ≡ before.cisn
  pub sisn : after.sisn ≡ before.sisn
  pub mss : after.mss ≡ before.mss
  pub fetched : after.fetched ≡ before.fetched
  pub fetched_output : after.fetched_output ≡ before.fetched_output
  pub delays : after.delays ≡ before.delays
  pub batches : after.batches ≡ before.batches

-- a turn of a connection that its client has not reset
pub record LiveTurn {State : Type 0} (service : Machine State) (server : Addr) (boot : ℕ) (news : News) (before after : Point)
    (sent : List Packet) : Type 0 where
  pub same : IsSameConnection before after
  pub taken : after.taken ≡ taken_after news before
  pub fin : after.fin ≡ fin_after news before
  pub early : after.early ≡ early_after news before
  pub answered : after.answered ≡ answered_after news before
  pub reads_answered : after.reads_answered ≡ reads_answered_after news before
  pub reads : MakesReads service before after
  pub syn_acked : after.syn_acked ≡ syn_acked_after news before
  pub una : after.una ≡ acknowledged_after news before
  pub edge : after.edge ≡ edge_after news before
  pub wl1 : after.wl1 ≡ wl1_after news before
  pub wl2 : after.wl2 ≡ wl2_after news before
  pub congestion : after.congestion ≡ congestion_after news before
  pub sent_units : after.sent ≡ sent_after service news before after
  pub timing : after.timing ≡ timing_after service news before after
  pub timestamping : after.timestamping ≡ timestamping_after news before
  pub interval : after.interval ≡ interval_after news before after
  pub rest : after.rest ≡ rest_after service news before after
  pub end_ticks : after.end_ticks ≡ end_ticks_after service news before after
  pub reset : after.reset ≡ false
  pub packets : sent ≡ sent_by service server boot news before after

-- a turn of a connection that its client resets or has reset: it only learns what is logged, and reports that it is done
pub record ResetTurn (boot : ℕ) (news : News) (before after : Point) (sent : List Packet) : Type 0 where
  pub point : after ≡ record before { answered = answered_after news before; reads_answered = reads_answered_after news before; reset = true }
  pub packets : sent ≡ map (reported_by boot) (dones news before after)

-- a turn of a live connection
abbrev pub ConnectionTurn : {State : Type 0} → Machine State → Addr → (boot : ℕ) → News → Point → Point → List Packet → Type 0
ConnectionTurn service server boot news before after sent =
    MatchBool (reset_after news before) (ResetTurn boot news before after sent) (LiveTurn service server boot news before after sent)
