-- From the law of the uncrashed server to what clients of Counter see.
use Rattle.std.proofs.Common.{◌≡◌, ℕ, ◌+◌, ◌<◌, sym, subst, List, [], ◌∷◌, length, take, get_or}
use Rattle.std.proofs.lemmas.List.{take_more}
use Rattle.std.specs.List.{AllByRecursion}
use Rattle.net_schedule.specs.Refinement.{Kept}
use Rattle.net_schedule.specs.Step.{Steps}
use Rattle.schedule_network.specs.declared.step_out.StepOut.{StepOut}
use Rattle.server_trait.specs.Service.{no_greeting}
use Rattle.ft_model.specs.Client.{Client}
use Rattle.ft_model.specs.Growth.{logged_lengths}
use Rattle.ft_model.specs.Legal.{machines, start_of}
use Rattle.ft_model.specs.Log.{Log}
use Rattle.ft_model.specs.Masked.{SeesFront, unfailing}
use Rattle.ft_model.specs.Schedule.{kind_of}
use Rattle.ft_model.specs.World.{World, Moment, Joint, world_after}
use Rattle.ft_model.specs.declared.event.Event.{Event}
use Rattle.ft_model.specs.declared.schedule.Schedule.{Schedule}
use Rattle.counter_service.specs.declared.counter.Counter.{Counter}
use Rattle.counter_service.specs.Counter.{counter_started, counter_after, answers, counter_machine}
use Rattle.own_service.specs.ClientView.{SeesAnswers, IsPlayed}
use Rattle.own_service.proofs.Fronts.{front, longer}

each_sees : (log : Log) (clients : List Client) → AllByRecursion (SeesFront counter_machine log) clients → AllByRecursion SeesAnswers clients
each_sees log [] seen = tt
each_sees log (client ∷ clients) seen = (
  longer client.accepted (unfailing counter_machine log client).output (answers 0 client.script) seen.0.accepted
      (front client.script (logged_lengths client.key log)),
  each_sees log clients seen.1,
)

-- the law of the uncrashed server, of Counter
abbrev pub Law : Type 0
Law = (kind : ℕ) (start : World) (trace : List Moment) → Joint counter_machine start trace
    → AllByRecursion (SeesFront counter_machine (world_after start trace).log) (world_after start trace).clients

pub all_see : Law → (schedule : Schedule) (events : List Event) (w : Kept Counter) → IsPlayed schedule events w → AllByRecursion SeesAnswers w.clients
all_see law schedule events w played =
    let seen = each_sees (world_after (start_of schedule) played.trace).log (world_after (start_of schedule) played.trace).clients
    (law (kind_of schedule.service) (start_of schedule) played.trace played.stands.legal.joint) in
    subst (AllByRecursion SeesAnswers) (sym played.stands.stands.clients) seen

-- a step plays one event more
pub plays_next : (schedule : Schedule) (items : List Event) (i : ℕ) (d : Event) (w after : Kept Counter) (answer : StepOut)
    → items ≡ schedule.events → i < length items → (played : IsPlayed schedule (take i schedule.events) w)
    → Steps (machines (λ _. counter_started) counter_after no_greeting) schedule (take i schedule.events) played.trace (get_or items i d) answer after
    → IsPlayed schedule (take (i + 1) schedule.events) after
plays_next schedule items i d w after answer same within played steps =
    let next : Steps (machines (λ _. counter_started) counter_after no_greeting) schedule (take i schedule.events) played.trace (get_or schedule.events i d)
    answer after =
    subst (λ es. Steps (machines (λ _. counter_started) counter_after no_greeting) schedule (take i schedule.events) played.trace (get_or es i d) answer after)
    same steps in
    subst (λ es. IsPlayed schedule es after) (sym (take_more schedule.events i d (subst (λ es. i < length es) same within)))
    (record { trace = next.extends.moment ∷ played.trace; stands = next.extends.stands })
