-- A step of the world with two loggers: a legal trace is extended by one event.
use Rattle.std.specs.Prelude.{◌≡◌, ℕ, ◌+◌, ◌<◌, ◌≤◌, Some, List, [], ◌∷◌, ◌++◌, length}
use Rattle.server_trait.specs.Service.{Machine}
use Rattle.ft_model.specs.Schedule.{kind_of}
use Rattle.ft_model.specs.declared.event.Event.{Event}
use Rattle.ft_model.specs.declared.schedule.Schedule.{Schedule}
use Rattle.twin_laws.specs.TwinWorld.{TwinMoment, twin_after}
use Rattle.twin_laws.specs.TwinLegal.{IsTwinLegalFor, twin_start, twin_refusal, twin_packets_sent}
use Rattle.net_schedule.specs.Refinement.{Kept}
use Rattle.net_schedule.specs.TwinRefinement.{TwinWorldStands}
use Rattle.schedule_network.specs.declared.end.StepEnd.{StepEnd}
use Rattle.schedule_network.specs.declared.end.StepEnd.TheVariants.{NoMemory, BadEvent, PacketLimit}
use Rattle.schedule_network.specs.declared.step_out.StepOut.{StepOut}

-- The code's world is at the end of a legal trace of these events of a schedule with two loggers.
pub record TwinStandsAfter {State : Type 0} (services : ℕ → Machine State) (schedule : Schedule) (events : List Event) (trace : List TwinMoment)
    (w : Kept State) : Type 0 where
  pub kind : w.kind ≡ kind_of schedule.service
  pub profile : w.profile ≡ schedule.profile
  pub legal : IsTwinLegalFor services schedule events trace
  pub stands : TwinWorldStands (services w.kind) w (twin_after (twin_start schedule) trace)

-- The same after one more event: the trace is extended by a moment.
pub record TwinExtends {State : Type 0} (services : ℕ → Machine State) (schedule : Schedule) (events : List Event) (trace : List TwinMoment)
    (event : Event) (w : Kept State) : Type 0 where
  pub moment : TwinMoment
  pub stands : TwinStandsAfter services schedule (events ++ event ∷ []) (moment ∷ trace) w
  pub grew : moment.world.parcels ≡ (twin_after (twin_start schedule) trace).parcels ++ moment.sent

-- A step within the limit of packets. The answer gives the packets that were sent in it.
pub record TwinSteps {State : Type 0} (services : ℕ → Machine State) (schedule : Schedule) (events : List Event) (trace : List TwinMoment)
    (event : Event) (answer : StepOut) (w : Kept State) : Type 0 where
  pub extends : TwinExtends services schedule events trace event w
  pub first : answer.first ≡ twin_packets_sent schedule trace + 1
  pub count : answer.count ≡ length extends.moment.sent
  pub within : twin_packets_sent schedule (extends.moment ∷ trace) ≤ 200000

-- Why a step isn't done: the definitions refuse the event, the packets would exceed their limit, or an allocation failed.
abbrev pub TwinEndsStep : {State : Type 0} → (ℕ → Machine State) → Schedule → List Event → List TwinMoment → Event → Kept State → StepEnd → Type 0
TwinEndsStep services schedule events trace event w NoMemory = Unit {0}
TwinEndsStep services schedule events trace event w (BadEvent why) = twin_refusal (twin_after (twin_start schedule) trace) event ≡ Some why
TwinEndsStep services schedule events trace event w PacketLimit =
    (extends : TwinExtends services schedule events trace event w) × (200000 < twin_packets_sent schedule (extends.moment ∷ trace))
