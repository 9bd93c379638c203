-- What becomes of a schedule when its events are played in order: all are done, one is refused, or the packets exceed their limit.
use Rattle.std.specs.Prelude.{◌≡◌, ℕ, ◌<◌, ◌≤◌, ◌⊎◌, Some, List, [], ◌∷◌, ◌++◌, length}
use Rattle.server_trait.specs.Service.{Machine}
use Rattle.ft_model.specs.World.{Moment, world_after}
use Rattle.ft_model.specs.Legal.{start_of, refusal, IsLegalFor, Legal}
use Rattle.ft_model.specs.declared.event.Event.{Event}
use Rattle.ft_model.specs.declared.event.EventWhy.{EventWhy}
use Rattle.ft_model.specs.declared.schedule.Schedule.{Schedule}

-- how many packets were sent up to the end of a trace
abbrev pub packets_sent : Schedule → List Moment → ℕ
packets_sent schedule trace = length (world_after (start_of schedule) trace).packets

-- every event is allowed in its turn, and the packets stay within their limit
pub record IsWhole {State : Type 0} (service : ℕ → Machine State) (schedule : Schedule) : Type 0 where
  pub trace : List Moment
  pub legal : Legal service schedule trace
  pub within : packets_sent schedule trace ≤ 200000

-- after these first events the next one is refused, for this cause
pub record IsRefused {State : Type 0} (service : ℕ → Machine State) (schedule : Schedule) : Type 0 where
  pub played : List Event
  pub event : Event
  pub others : List Event
  pub why : EventWhy
  pub trace : List Moment
  pub events : schedule.events ≡ played ++ event ∷ others
  pub legal : IsLegalFor service schedule played trace
  pub within : packets_sent schedule trace ≤ 200000
  pub refused : refusal (world_after (start_of schedule) trace) event ≡ Some why

-- up to this event the packets stay within their limit, and with it they exceed it
pub record IsPastPackets {State : Type 0} (service : ℕ → Machine State) (schedule : Schedule) : Type 0 where
  pub played : List Event
  pub event : Event
  pub others : List Event
  pub moment : Moment
  pub earlier : List Moment
  pub events : schedule.events ≡ played ++ event ∷ others
  pub legal : IsLegalFor service schedule (played ++ event ∷ []) (moment ∷ earlier)
  pub within : packets_sent schedule earlier ≤ 200000
  pub over : 200000 < packets_sent schedule (moment ∷ earlier)

-- one of the three
abbrev pub HasOutcome : {State : Type 0} → (ℕ → Machine State) → Schedule → Type 0
HasOutcome service schedule = IsWhole service schedule ⊎ (IsRefused service schedule ⊎ IsPastPackets service schedule)
