-- The outcomes of a schedule with marks when its events are played in order: all happen, one is refused, or the packets exceed their limit.
use Rattle.std.specs.Prelude.{◌≡◌, ℕ, ◌<◌, ◌≤◌, Some, List, [], ◌∷◌, ◌++◌}
use Rattle.ft_model.specs.declared.event.Event.{Event}
use Rattle.ft_model.specs.declared.event.EventWhy.{EventWhy}
use Rattle.ft_model.specs.declared.schedule.Schedule.{Schedule}
use Rattle.mark_laws.specs.MarkedNode.{Marker}
use Rattle.mark_laws.specs.MarkedWorld.{MarkedMoment, marked_after}
use Rattle.mark_laws.specs.MarkedLegal.{marked_start, marked_refusal, IsMarkedLegalFor, MarkedLegal, marked_packets_sent}

-- every event is allowed in its turn, and the packets stay within their limit
pub record IsMarkedWhole {State : Type 0} (by : ℕ → Marker State) (schedule : Schedule) : Type 0 where
  pub trace : List MarkedMoment
  pub legal : MarkedLegal by schedule trace
  pub within : marked_packets_sent schedule trace ≤ 200000

-- after these first events the next one is refused, for this cause
pub record IsMarkedRefused {State : Type 0} (by : ℕ → Marker State) (schedule : Schedule) : Type 0 where
  pub played : List Event
  pub event : Event
  pub others : List Event
  pub why : EventWhy
  pub trace : List MarkedMoment
  pub events : schedule.events ≡ played ++ event ∷ others
  pub legal : IsMarkedLegalFor by schedule played trace
  pub within : marked_packets_sent schedule trace ≤ 200000
  pub refused : marked_refusal (marked_after (marked_start schedule) trace) event ≡ Some why

-- up to this event the packets stay within their limit, and with it they exceed it
pub record IsMarkedPastPackets {State : Type 0} (by : ℕ → Marker State) (schedule : Schedule) : Type 0 where
  pub played : List Event
  pub event : Event
  pub others : List Event
  pub moment : MarkedMoment
  pub earlier : List MarkedMoment
  pub events : schedule.events ≡ played ++ event ∷ others
  pub legal : IsMarkedLegalFor by schedule (played ++ event ∷ []) (moment ∷ earlier)
  pub within : marked_packets_sent schedule earlier ≤ 200000
  pub over : 200000 < marked_packets_sent schedule (moment ∷ earlier)
