-- A step of the code's world, for every legal trace whose end the world is at.
use Rattle.std.specs.Prelude.{◌≡◌, ℕ, ◌+◌, ◌<◌, ◌≤◌, Some, List, [], ◌∷◌, ◌++◌, length, map, drop}
use Rattle.std.specs.List.{AllByRecursion}
use Rattle.server_trait.specs.Service.{Machine}
use Rattle.ft_model.specs.Playable.{IsPlayable}
use Rattle.ft_model.specs.Readable.{FitsEvent}
use Rattle.ft_model.specs.Schedule.{kind_of}
use Rattle.ft_model.specs.declared.event.Event.{Event}
use Rattle.ft_model.specs.declared.schedule.Lasting.{Lasting}
use Rattle.ft_model.specs.declared.schedule.Schedule.{Schedule}
use Rattle.lasting_laws.specs.LastingLegal.{IsLastingLegalFor, lasting_start, lasting_refusal, lasting_packets_sent}
use Rattle.lasting_laws.specs.LastingReport.{way_of_lasting}
use Rattle.lasting_laws.specs.LastingWorld.{LastingMoment, lasting_after, bytes_of}
use Rattle.schedule_network.specs.declared.end.StepEnd.{StepEnd}
use Rattle.schedule_network.specs.declared.end.StepEnd.TheVariants.{NoMemory, BadEvent, PacketLimit}
use Rattle.schedule_network.specs.declared.step_out.StepOut.{StepOut}
use Rattle.lasting_unseen.specs.Written.{IsWritten}
use Rattle.lasting_world.specs.SentParcels.{run_grammar}
use Rattle.lasting_world.specs.Stands.{WorldStands}
use Rattle.lasting_world.specs.WorldView.{KeptWorld}

-- The world is at the end of a legal trace of these events of a schedule
pub record StandsAfter {S : Type 0} (services : ℕ → Machine S) (waits : Lasting) (schedule : Schedule) (events : List Event) (trace : List LastingMoment)
    (now : KeptWorld S) : Type 0 where
  pub kind : now.kind ≡ kind_of schedule.service
  pub profile : now.around.profile ≡ schedule.profile
  pub playable : IsPlayable schedule
  pub fits : AllByRecursion FitsEvent events
  pub legal : IsLastingLegalFor services waits schedule events trace
  pub stands : WorldStands (services (kind_of schedule.service)) (lasting_after (lasting_start waits schedule) trace) now

-- .. and after one more event
pub record Extends {S : Type 0} (services : ℕ → Machine S) (waits : Lasting) (schedule : Schedule) (events : List Event) (trace : List LastingMoment)
    (event : Event) (now : KeptWorld S) : Type 0 where
  pub moment : LastingMoment
  pub stands : StandsAfter services waits schedule (events ++ event ∷ []) (moment ∷ trace) now

pub record Steps {S : Type 0} (services : ℕ → Machine S) (waits : Lasting) (schedule : Schedule) (events : List Event) (trace : List LastingMoment)
    (event : Event) (answer : StepOut) (now : KeptWorld S) : Type 0 where
  pub extends : Extends services waits schedule events trace event now
  pub first : answer.first ≡ lasting_packets_sent waits schedule trace + 1
  pub count : answer.count ≡ length extends.moment.parcels
  pub within : lasting_packets_sent waits schedule (extends.moment ∷ trace) ≤ 200000
  pub ways : drop (lasting_packets_sent waits schedule trace) now.around.network.packets.ways
      ≡ map (way_of_lasting extends.moment.world.guests) extends.moment.parcels
  pub bytes : drop (lasting_packets_sent waits schedule trace) now.around.network.packets.bytes ≡ map (bytes_of (run_grammar schedule)) extends.moment.parcels
  pub written : AllByRecursion (IsWritten (run_grammar schedule)) extends.moment.parcels

abbrev pub StepsAlong : {S : Type 0} → (ℕ → Machine S) → Event → StepOut → (before after : KeptWorld S) → Type 0
StepsAlong services event answer before after =
    (waits : Lasting) (schedule : Schedule) (events : List Event) (trace : List LastingMoment) → StandsAfter services waits schedule events trace before
    → Steps services waits schedule events trace event answer after

-- why a step isn't done: the definitions refuse the event, the packets would exceed their limit, or an allocation failed
abbrev pub EndsStep : {S : Type 0} → (ℕ → Machine S) → Lasting → Schedule → List Event → List LastingMoment → Event → KeptWorld S → StepEnd → Type 0
EndsStep services waits schedule events trace event after NoMemory = Unit {0}
EndsStep services waits schedule events trace event after (BadEvent why) = lasting_refusal (lasting_after (lasting_start waits schedule) trace) event ≡ Some why
EndsStep services waits schedule events trace event after PacketLimit =
    (extends : Extends services waits schedule events trace event after) × (200000 < lasting_packets_sent waits schedule (extends.moment ∷ trace))

abbrev pub EndsAlong : {S : Type 0} → (ℕ → Machine S) → Event → StepEnd → (before after : KeptWorld S) → Type 0
EndsAlong services event end before after =
    (waits : Lasting) (schedule : Schedule) (events : List Event) (trace : List LastingMoment) → StandsAfter services waits schedule events trace before
    → EndsStep services waits schedule events trace event after end
