-- One drawn event more: where the world and the counts come after it.
use Rattle.std.proofs.Common.{◌≡◌, ◌∙◌, refl, sym, ap, subst, ℕ, ◌+◌, ◌<◌, ◌≤◌, None, is_some, List, [], ◌∷◌, length, length-append, add-one, arith}
use Rattle.seq_arith.specs.Offset.{one_if}
use Rattle.sample_servers.specs.AnyService.{any_machine}
use Rattle.sample_servers.specs.declared.any_service.AnyService.{AnyService}
use Rattle.ft_model.specs.Legal.{IsLegalFor, Legal, refusal}
use Rattle.ft_model.specs.World.{World, Moment, world_after, events_of, Happens}
use Rattle.ft_model.specs.declared.event.Event.{Event}
use Rattle.net_schedule.specs.Refinement.{Kept}
use Rattle.net_schedule.specs.Step.{StandsAfter, Extends, Steps, EndsStep}
use Rattle.schedule_network.specs.declared.step_out.StepOut.{StepOut}
use Rattle.schedule_network.specs.declared.end.StepEnd.TheVariants.{BadEvent, PacketLimit}
use Rattle.ft_model.proofs.Lists.{none_is_some}
use Rattle.replay_seed.specs.SeedEvents.{Drawn, next_event, next_event_in}
use Rattle.replay_seed.specs.Generated.{after_draws, schedule_of, state_behind, AreDrawn}
use Rattle.replay_seed.specs.SummaryText.{count_events, is_boot, is_crash}
use Rattle.replay_seed.specs.SeedSummaries.{start_of_run, packets_of_run, IsGenerated, IsPastLimit, StandsBehind}
use Rattle.replay_seed.specs.declared.asked.Asked.{Asked}
use Rattle.replay_seed.specs.declared.dice.Dice.{Dice}
use Rattle.replay_seed.specs.declared.seed_progress.Progress.{Progress}
use Rattle.replay_seed.proofs.Allowed.{allowed}
use Rattle.replay_seed.proofs.Boots.{HasNextBoot, boot_after}
use Rattle.replay_seed.proofs.Clients.{AllKeep, all_keep, start_keeps}
use Rattle.replay_check.proofs.Events.{last_event}
use Rattle.net_schedule.proofs.Goings.{both_up}

-- the world after the events
abbrev pub world_of : (asked : Asked) → List Moment → World
world_of asked trace = world_after (start_of_run asked) trace

pub kept_alike : (asked : Asked) (n : ℕ) (w : Kept AnyService) (p : Progress) (s : StandsBehind asked n w p) → is_some w.node ≡ is_some (world_of asked s.trace).node
kept_alike asked n w p s = both_up (any_machine w.kind) w.kind w.node (world_of asked s.trace).node s.stands.stands.node

-- what is drawn from what the code sees is what is drawn in the definitions' world
pub drawn_alike : (asked : Asked) (n : ℕ) (w : Kept AnyService) (p : Progress) (s : StandsBehind asked n w p)
    → next_event p.dice.draws.state p.packets w.clients (record { is_up = is_some w.node; boots = p.boots })
    ≡ next_event_in (state_behind (after_draws asked.seed asked.clients) (start_of_run asked) s.trace) (world_of asked s.trace)
drawn_alike asked n w p s =
    let v : World = world_of asked s.trace in
    let up = kept_alike asked n w p s in
    ap (λ x. next_event x p.packets w.clients (record { is_up = is_some w.node; boots = p.boots })) s.state
    ∙ (ap (λ x. next_event (state_behind (after_draws asked.seed asked.clients) (start_of_run asked) s.trace) x w.clients (record { is_up = is_some w.node; boots = p.boots })) s.packets
    ∙ (ap (λ x. next_event (state_behind (after_draws asked.seed asked.clients) (start_of_run asked) s.trace) (packets_of_run asked s.trace) x (record { is_up = is_some w.node; boots = p.boots })) s.stands.stands.clients
    ∙ (ap (λ x. next_event (state_behind (after_draws asked.seed asked.clients) (start_of_run asked) s.trace) (packets_of_run asked s.trace) v.clients (record { is_up = x; boots = p.boots })) up
    ∙ ap (λ x. next_event (state_behind (after_draws asked.seed asked.clients) (start_of_run asked) s.trace) (packets_of_run asked s.trace) v.clients (record { is_up = is_some v.node; boots = x })) (sym s.last_boot))))

-- the clients of a run
pub clients_keep : (asked : Asked) (n : ℕ) (w : Kept AnyService) (p : Progress) (s : StandsBehind asked n w p) → AllKeep (start_of_run asked) (world_of asked s.trace)
clients_keep asked n w p s =
    all_keep (any_machine 1) (start_of_run asked) s.trace (start_keeps asked.seed asked.clients) s.stands.legal.joint

pub drawn_is_allowed : (asked : Asked) (n : ℕ) (w : Kept AnyService) (p : Progress) (s : StandsBehind asked n w p) (event : Event) (state : ℕ)
    → record { event = event; state = state } ≡ next_event p.dice.draws.state p.packets w.clients (record { is_up = is_some w.node; boots = p.boots })
    → (refusal (world_of asked s.trace) event ≡ None) × HasNextBoot (world_of asked s.trace) event
drawn_is_allowed asked n w p s event state e =
    subst (λ (d : Drawn). (refusal (world_of asked s.trace) d.event ≡ None) × HasNextBoot (world_of asked s.trace) d.event) (sym (e ∙ drawn_alike asked n w p s))
    (allowed (world_of asked s.trace) (state_behind (after_draws asked.seed asked.clients) (start_of_run asked) s.trace) (clients_keep asked n w p s).keeps)

legal_for : (asked : Asked) (trace : List Moment) (events : List Event) → IsLegalFor any_machine (schedule_of asked.seed asked.clients []) events trace
    → Legal any_machine (schedule_of asked.seed asked.clients (events_of trace)) trace
legal_for asked trace events l = record { joint = l.joint; events_are = refl; allowed = l.allowed }

pub generated : (asked : Asked) (trace : List Moment) (events : List Event) → IsLegalFor any_machine (schedule_of asked.seed asked.clients []) events trace
    → AreDrawn (after_draws asked.seed asked.clients) (start_of_run asked) trace → IsGenerated asked trace
generated asked trace events l d = record { legal = legal_for asked trace events l; drawn = d }

abbrev pub counted : Progress → Dice → StepOut → Event → Progress
counted p dice answer event =
    record { dice = dice; packets = p.packets + answer.count; boots = p.boots + one_if (is_boot event); crashes = p.crashes + one_if (is_crash event) }

-- a step leads after one event more
module _ (asked : Asked) (n : ℕ) (w w' : Kept AnyService) (p : Progress) (s : StandsBehind asked n w p) (event : Event) (dice : Dice)
    (e : record { event = event; state = dice.draws.state } ≡ next_event p.dice.draws.state p.packets w.clients (record { is_up = is_some w.node; boots = p.boots })) where
  state : ℕ
  state = state_behind (after_draws asked.seed asked.clients) (start_of_run asked) s.trace

  is_drawn : record { event = event; state = dice.draws.state } ≡ next_event_in (state_behind (after_draws asked.seed asked.clients) (start_of_run asked) s.trace) (world_of asked s.trace)
  is_drawn = e ∙ drawn_alike asked n w p s

  abbrev Goes : Type 0
  Goes = Extends any_machine (schedule_of asked.seed asked.clients []) (events_of s.trace) s.trace event w'

  event_is : (x : Goes) → x.moment.event ≡ event
  event_is x = last_event (events_of s.trace) x.moment.event event x.stands.legal.events_are

  drawn_on : (x : Goes) → AreDrawn (after_draws asked.seed asked.clients) (start_of_run asked) (x.moment ∷ s.trace)
  drawn_on x = (s.drawn, event_is x ∙ ap (λ (d : Drawn). d.event) is_drawn)

  pub proceeds : (answer : StepOut) → Steps any_machine (schedule_of asked.seed asked.clients []) (events_of s.trace) s.trace event answer w'
      → StandsBehind asked (n + 1) w' (counted p dice answer event)
  proceeds answer t =
      let x : Goes = t.extends in
      let v : World = world_of asked s.trace in
      let long : length x.moment.world.packets ≡ length v.packets + length x.moment.sent = ap length x.grew ∙ length-append v.packets x.moment.sent in
      record {
        trace = x.moment ∷ s.trace;
        stands = subst (λ events. StandsAfter any_machine (schedule_of asked.seed asked.clients []) events (x.moment ∷ s.trace) w') (sym x.stands.legal.events_are) x.stands;
        drawn = drawn_on x;
        events = rw (add-one, s.events) refl;
        state = ap (λ (d : Drawn). d.state) is_drawn;
        packets = ap (λ k. p.packets + k) t.count ∙ (ap (λ k. k + length x.moment.sent) s.packets ∙ sym long);
        within = omega (arith, long, t.within, s.packets, t.count);
        boots = ap (λ k. k + one_if (is_boot event)) s.boots ∙ ap (λ ev. count_events is_boot s.trace + one_if (is_boot ev)) (sym (event_is x));
        crashes = ap (λ k. k + one_if (is_crash event)) s.crashes ∙ ap (λ ev. count_events is_crash s.trace + one_if (is_crash ev)) (sym (event_is x));
        last_boot = boot_after (any_machine 1) v event x.moment.sent x.moment.world (drawn_is_allowed asked n w p s event dice.draws.state e).1
            (subst (λ ev. Happens (any_machine 1) v ev x.moment.sent x.moment.world) (event_is x) x.stands.legal.joint.1) ∙ ap (λ k. k + one_if (is_boot event)) s.last_boot;
      }

  pub goes_past : n < asked.events → EndsStep any_machine (schedule_of asked.seed asked.clients []) (events_of s.trace) s.trace event w' PacketLimit → IsPastLimit asked
  goes_past few t =
      let x : Goes = t.0 in
      record {
        moment = x.moment;
        earlier = s.trace;
        generated = generated asked (x.moment ∷ s.trace) _ x.stands.legal (drawn_on x);
        count = subst (λ k. k < asked.events) (sym s.events) few;
        within = subst (λ k. k ≤ 200000) s.packets s.within;
        over = t.1;
      }

  pub never_bad : (why : _) → EndsStep any_machine (schedule_of asked.seed asked.clients []) (events_of s.trace) s.trace event w' (BadEvent why) → ⊥
  never_bad why t = none_is_some why (sym (drawn_is_allowed asked n w p s event dice.draws.state e).0 ∙ t)
