-- The outcomes of a schedule with two loggers when its events are played in order: all happen, one is refused, or the packets exceed their limit.
use Rattle.std.specs.Prelude.{◌≡◌, ℕ, ◌<◌, ◌≤◌, Some, List, [], ◌∷◌, ◌++◌}
use Rattle.server_trait.specs.Service.{Machine}
use Rattle.ft_model.specs.declared.event.Event.{Event}
use Rattle.ft_model.specs.declared.event.EventWhy.{EventWhy}
use Rattle.ft_model.specs.declared.schedule.Schedule.{Schedule}
use Rattle.twin_laws.specs.TwinWorld.{TwinMoment, twin_after}
use Rattle.twin_laws.specs.TwinLegal.{twin_start, twin_refusal, IsTwinLegalFor, TwinLegal, twin_packets_sent}

-- every event is allowed in its turn, and the packets stay within their limit
pub record IsTwinWhole {State : Type 0} (service : ℕ → Machine State) (schedule : Schedule) : Type 0 where
  pub trace : List TwinMoment
  pub legal : TwinLegal service schedule trace
  pub within : twin_packets_sent schedule trace ≤ 200000

-- after these first events the next one is refused, for this cause
pub record IsTwinRefused {State : Type 0} (service : ℕ → Machine State) (schedule : Schedule) : Type 0 where
  pub played : List Event
  pub event : Event
  pub others : List Event
  pub why : EventWhy
  pub trace : List TwinMoment
  pub events : schedule.events ≡ played ++ event ∷ others
  pub legal : IsTwinLegalFor service schedule played trace
  pub within : twin_packets_sent schedule trace ≤ 200000
  pub refused : twin_refusal (twin_after (twin_start schedule) trace) event ≡ Some why

-- up to this event the packets stay within their limit, and with it they exceed it
pub record IsTwinPastPackets {State : Type 0} (service : ℕ → Machine State) (schedule : Schedule) : Type 0 where
  pub played : List Event
  pub event : Event
  pub others : List Event
  pub moment : TwinMoment
  pub earlier : List TwinMoment
  pub events : schedule.events ≡ played ++ event ∷ others
  pub legal : IsTwinLegalFor service schedule (played ++ event ∷ []) (moment ∷ earlier)
  pub within : twin_packets_sent schedule earlier ≤ 200000
  pub over : 200000 < twin_packets_sent schedule (moment ∷ earlier)
