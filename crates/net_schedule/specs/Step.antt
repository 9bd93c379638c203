-- A step of the world: a legal trace is extended by one event.
use Rattle.std.specs.Prelude.{◌≡◌, ℕ, ◌+◌, ◌<◌, ◌≤◌, Some, List, [], ◌∷◌, ◌++◌, length}
use Rattle.server_trait.specs.Service.{Machine}
use Rattle.ft_model.specs.Schedule.{kind_of}
use Rattle.ft_model.specs.World.{Moment, world_after}
use Rattle.ft_model.specs.Legal.{start_of, refusal, IsLegalFor}
use Rattle.ft_model.specs.Outcome.{packets_sent}
use Rattle.ft_model.specs.declared.event.Event.{Event}
use Rattle.ft_model.specs.declared.schedule.Schedule.{Schedule}
use Rattle.net_schedule.specs.Refinement.{Kept, WorldStands}
use Rattle.schedule_network.specs.declared.end.StepEnd.{StepEnd}
use Rattle.schedule_network.specs.declared.end.StepEnd.TheVariants.{NoMemory, BadEvent, PacketLimit}
use Rattle.schedule_network.specs.declared.step_out.StepOut.{StepOut}

-- The code's world is at the end of a legal trace of these events of a schedule.
pub record StandsAfter {State : Type 0} (services : ℕ → Machine State) (schedule : Schedule) (events : List Event) (trace : List Moment)
    (w : Kept State) : Type 0 where
  pub kind : w.kind ≡ kind_of schedule.service
  pub profile : w.profile ≡ schedule.profile
  pub legal : IsLegalFor services schedule events trace
  pub stands : WorldStands (services w.kind) w (world_after (start_of schedule) trace)

-- The same after one more event: the trace is extended by a moment.
pub record Extends {State : Type 0} (services : ℕ → Machine State) (schedule : Schedule) (events : List Event) (trace : List Moment)
    (event : Event) (w : Kept State) : Type 0 where
  pub moment : Moment
  pub stands : StandsAfter services schedule (events ++ event ∷ []) (moment ∷ trace) w
  pub grew : moment.world.packets ≡ (world_after (start_of schedule) trace).packets ++ moment.sent

-- A step within the limit of packets. The answer gives the packets that were sent in it.
pub record Steps {State : Type 0} (services : ℕ → Machine State) (schedule : Schedule) (events : List Event) (trace : List Moment)
    (event : Event) (answer : StepOut) (w : Kept State) : Type 0 where
  pub extends : Extends services schedule events trace event w
  pub first : answer.first ≡ packets_sent schedule trace + 1
  pub count : answer.count ≡ length extends.moment.sent
  pub within : packets_sent schedule (extends.moment ∷ trace) ≤ 200000

-- Why a step isn't done: the definitions refuse the event, the packets would exceed their limit, or an allocation failed.
abbrev pub EndsStep : {State : Type 0} → (ℕ → Machine State) → Schedule → List Event → List Moment → Event → Kept State → StepEnd → Type 0
EndsStep services schedule events trace event w NoMemory = Unit {0}
EndsStep services schedule events trace event w (BadEvent why) = refusal (world_after (start_of schedule) trace) event ≡ Some why
EndsStep services schedule events trace event w PacketLimit =
    (extends : Extends services schedule events trace event w) × (200000 < packets_sent schedule (extends.moment ∷ trace))
