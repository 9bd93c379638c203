-- A step of the world with marks: a legal trace is extended by one event.
use Rattle.std.specs.Prelude.{◌≡◌, ℕ, ◌+◌, ◌<◌, ◌≤◌, Some, List, [], ◌∷◌, ◌++◌, length}
use Rattle.ft_model.specs.Schedule.{kind_of}
use Rattle.ft_model.specs.declared.event.Event.{Event}
use Rattle.ft_model.specs.declared.schedule.Schedule.{Schedule}
use Rattle.mark_laws.specs.MarkedNode.{Marker}
use Rattle.mark_laws.specs.MarkedWorld.{MarkedMoment, marked_after}
use Rattle.mark_laws.specs.MarkedLegal.{IsMarkedLegalFor, marked_start, marked_refusal, marked_packets_sent}
use Rattle.net_schedule.specs.Refinement.{Kept}
use Rattle.net_schedule.specs.MarkedRefinement.{MarkedWorldStands}
use Rattle.schedule_network.specs.declared.end.StepEnd.{StepEnd}
use Rattle.schedule_network.specs.declared.end.StepEnd.TheVariants.{NoMemory, BadEvent, PacketLimit}
use Rattle.schedule_network.specs.declared.step_out.StepOut.{StepOut}

-- The code's world is at the end of a legal trace of these events of a schedule with marks.
pub record MarkedStandsAfter {State : Type 0} (by : ℕ → Marker State) (schedule : Schedule) (events : List Event) (trace : List MarkedMoment)
    (w : Kept State) : Type 0 where
  pub kind : w.kind ≡ kind_of schedule.service
  pub profile : w.profile ≡ schedule.profile
  pub legal : IsMarkedLegalFor by schedule events trace
  pub stands : MarkedWorldStands (by w.kind) w (marked_after (marked_start schedule) trace)

-- The same after one more event: the trace is extended by a moment.
pub record MarkedExtends {State : Type 0} (by : ℕ → Marker State) (schedule : Schedule) (events : List Event) (trace : List MarkedMoment)
    (event : Event) (w : Kept State) : Type 0 where
  pub moment : MarkedMoment
  pub stands : MarkedStandsAfter by schedule (events ++ event ∷ []) (moment ∷ trace) w
  pub grew : moment.world.parcels ≡ (marked_after (marked_start schedule) trace).parcels ++ moment.sent

-- A step within the limit of packets. The answer gives the packets that were sent in it.
pub record MarkedSteps {State : Type 0} (by : ℕ → Marker State) (schedule : Schedule) (events : List Event) (trace : List MarkedMoment)
    (event : Event) (answer : StepOut) (w : Kept State) : Type 0 where
  pub extends : MarkedExtends by schedule events trace event w
  pub first : answer.first ≡ marked_packets_sent schedule trace + 1
  pub count : answer.count ≡ length extends.moment.sent
  pub within : marked_packets_sent schedule (extends.moment ∷ trace) ≤ 200000

-- Why a step isn't done: the definitions refuse the event, the packets would exceed their limit, or an allocation failed.
abbrev pub MarkedEndsStep : {State : Type 0} → (ℕ → Marker State) → Schedule → List Event → List MarkedMoment → Event → Kept State → StepEnd → Type 0
MarkedEndsStep by schedule events trace event w NoMemory = Unit {0}
MarkedEndsStep by schedule events trace event w (BadEvent why) = marked_refusal (marked_after (marked_start schedule) trace) event ≡ Some why
MarkedEndsStep by schedule events trace event w PacketLimit =
    (extends : MarkedExtends by schedule events trace event w) × (200000 < marked_packets_sent schedule (extends.moment ∷ trace))
