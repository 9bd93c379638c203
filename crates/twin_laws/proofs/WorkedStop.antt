-- The worked run with a stop is legal: each equation computes. A head that answers while it is paired, and a second stop, don't happen.
use Rattle.tcp_rules.specs.declared.timestamping.Timestamping.TheVariants.{Off}
use Rattle.std.proofs.Common.{◌≡◌, ℕ, ◌^◌, ◌==◌, false, true≢false, refl, sym, ap, ◌∙◌, subst, None, [], ◌∷◌, length}
use native.Mathlib.Bridge.{le_by_compare, IsLe}
use Rattle.seq_arith.specs.Message.{is_answer}
use Rattle.seq_arith.specs.MessageGrammar as messages
use Rattle.server_trait.specs.Service.{Machine}
use Rattle.ft_io.proofs.Choices.{if_false, holds_either_way}
use Rattle.ft_model.specs.Client.{move_asked}
use Rattle.ft_model.specs.Client.Move.{Syn}
use Rattle.ft_model.specs.Node.Input.{Tick_comes}
use Rattle.ft_model.specs.Node.Place.{Opens}
use Rattle.ft_model.specs.Node.Stage.{Serving}
use Rattle.ft_model.specs.Schedule.{kind_of}
use Rattle.ft_model.specs.ServingTurn.{PlaceTurn}
use Rattle.ft_model.specs.Lawful.{LawfulTurn}
use Rattle.ft_model.specs.WorkedRuns.Common.{hello_text, client_with, numbers}
use Rattle.ft_model.specs.WorkedRuns.FirstPath as path
use Rattle.ft_model.specs.declared.event.Event.TheVariants as events
use Rattle.ft_model.proofs.AllowedMoments.{starts_with_hello}
use Rattle.ft_model.proofs.AskedMoves.{quiet_event, scripted}
use Rattle.ft_model.proofs.FirstPath.{quiet, turn_3, turn_5, turn_7}
use Rattle.ft_model.proofs.Lists.{some_is}
use Rattle.ft_model.proofs.Turns.{laws, alone, segment_in}
use Rattle.twin_laws.specs.declared.part.Part.{Part}
use Rattle.twin_laws.specs.Flat.{flat, outside}
use Rattle.twin_laws.specs.Twin.{Comes, Does, Head, nothing, sends_waiting, has_room, head_takes, head_alone, head_paired, head_does}
use Rattle.twin_laws.specs.Twin.Between.{Forward, Got}
use Rattle.twin_laws.specs.Twin.Comes.{Asks, Reports, Is_noise}
use Rattle.twin_laws.specs.TwinLegal.{twin_start, event_of, twin_refusal, IsTwinAllowed, AllTwinAllowed, TwinLegal}
use Rattle.twin_laws.specs.TwinWorld.{TwinWorld, TwinMoment, TwinJoint, TwinHappens, IsTwinStart, ParcelComes, seen}
use Rattle.twin_laws.specs.TwinWorld.Parcel.{Outside, Inside}
use Rattle.twin_laws.specs.TwinWorld.TwinEvent.{Usual, Stop}
use Rattle.twin_laws.specs.WorkedPair.{events_in}
use Rattle.twin_laws.specs.WorkedStop as run

abbrev Happens : {State : Type 0} → Machine State → TwinWorld → TwinMoment → Type 0
Happens service before moment = TwinHappens service before moment.event moment.sent moment.world

starts : IsTwinStart (twin_start run.schedule)
starts = record { start = starts_with_hello; pair = refl; parcels = refl }

happens_1 : {State : Type 0} (service : Machine State) → Happens (quiet service) (twin_start run.schedule) run.moment_1
unfolding laws IsLe
happens_1 service = (path.packet_1 ∷ [], refl, (refl, (le_by_compare 1 1 tt, le_by_compare 2 (2 ^ 64) tt), refl, refl), refl, refl)

happens_2 : {State : Type 0} (service : Machine State) → Happens (quiet service) run.moment_1.world run.moment_2
unfolding laws messages.spelling_by messages.spelled messages.header
happens_2 service = (Outside path.packet_1, refl, (refl, refl))

happens_3 : {State : Type 0} (service : Machine State) → Happens (quiet service) run.moment_2.world run.moment_3
unfolding laws
happens_3 service = (Inside (Forward 1 run.hello), refl, (refl, refl))

happens_4 : {State : Type 0} (service : Machine State) → Happens (quiet service) run.moment_3.world run.moment_4
unfolding laws
happens_4 service = (Outside path.packet_2, refl, ([], refl, ((path.node_at (Serving 0 []), refl, turn_3 service), refl), refl, refl))

happens_5 : {State : Type 0} (service : Machine State) → Happens (quiet service) run.moment_4.world run.moment_5
unfolding laws
happens_5 service = (Inside (Got 1), refl, (refl, refl))

happens_6 : {State : Type 0} (service : Machine State) → Happens (quiet service) run.moment_5.world run.moment_6
unfolding laws
happens_6 service = (
  path.packet_3 ∷ [],
  refl,
  record { client = client_with hello_text; segment = segment_in path.packet_3; later = path.opening; is_there = refl; move = record { move = Syn None; window = 65535; may = refl; fits = refl; timestamps = None; carries = refl; segment_is = refl; after_is = refl }; sent_is = refl; after_is = refl },
  refl,
  refl,
)

happens_7 : {State : Type 0} (service : Machine State) → Happens (quiet service) run.moment_6.world run.moment_7
unfolding laws
happens_7 service = (Outside path.packet_3, refl, (path.packet_4 ∷ [], refl, ((path.node_at (Serving 1 (Opens numbers Off ∷ [])), refl, turn_5 service), refl), refl, refl))

happens_8 : {State : Type 0} (service : Machine State) → Happens (quiet service) run.moment_7.world run.moment_8
unfolding laws messages.spelling_by messages.spelled messages.header
happens_8 service = (Outside path.packet_4, refl, (refl, refl))

happens_9 : {State : Type 0} (service : Machine State) → Happens (quiet service) run.moment_8.world run.moment_9
unfolding laws
happens_9 service = (refl, refl, refl, refl)

-- the server asks again
ticks : {State : Type 0} (service : Machine State) → LawfulTurn (quiet service) (path.node_at (Serving 1 (Opens numbers Off ∷ []))) Tick_comes (path.packet_4 ∷ []) (path.node_at (Serving 1 (Opens numbers Off ∷ [])))
unfolding laws
ticks service = record {
  server = refl;
  profile = refl;
  boot = refl;
  isn = refl;
  live = refl;
  stage = (
    Opens numbers Off ∷ [],
    refl,
    record {
      went = Opens numbers Off ∷ [];
      by_places = [];
      all_go = alone (PlaceTurn (quiet service) (path.node_at (Serving 1 (Opens numbers Off ∷ []))) Tick_comes) (Opens numbers Off) (Opens numbers Off ∷ []) [] (refl, refl);
      places = refl;
      packets = refl;
    },
  );
}

happens_10 : {State : Type 0} (service : Machine State) → Happens (quiet service) run.moment_9.world run.moment_10
unfolding laws
happens_10 service = (path.packet_4 ∷ [], refl, (refl, ((path.node_at (Serving 1 (Opens numbers Off ∷ [])), refl, ticks service), refl)), refl, refl)

happens_11 : {State : Type 0} (service : Machine State) → Happens (quiet service) run.moment_10.world run.moment_11
unfolding laws
happens_11 service = (Outside path.packet_4, refl, (refl, refl))

happens_12 : {State : Type 0} (service : Machine State) → Happens (quiet service) run.moment_11.world run.moment_12
unfolding laws
happens_12 service = (Outside path.packet_5, refl, (path.packet_6 ∷ [], refl, ((path.node_live path.begun_point, refl, turn_7 service), refl), refl, refl))

joint : {State : Type 0} (service : Machine State) → TwinJoint (quiet service) (twin_start run.schedule) run.trace
joint service =
    ((((((((((((starts, happens_1 service), happens_2 service), happens_3 service), happens_4 service), happens_5 service), happens_6 service), happens_7 service), happens_8 service), happens_9 service), happens_10 service), happens_11 service), happens_12 service)

-- its events are allowed, and its client makes the move that is asked for
still : (before : TwinWorld) (moment : TwinMoment) → twin_refusal before (event_of moment.event) ≡ None → move_asked (event_of moment.event) ≡ None → IsTwinAllowed before moment
still before moment may none = record { allowed = may; scripted = quiet_event (seen before []) (event_of moment.event) (outside moment.sent) (seen moment.world []) none }

begins : IsTwinAllowed run.moment_5.world run.moment_6
begins = record { allowed = refl; scripted = scripted (seen run.moment_5.world []) (events.Begin 1 65535) (client_with hello_text) (Syn None) 1 (seen run.moment_6.world []) refl refl refl }

allowed : AllTwinAllowed (twin_start run.schedule) run.trace
allowed =
    ((((((((((((tt, still (twin_start run.schedule) run.moment_1 refl refl), still run.moment_1.world run.moment_2 refl refl), still run.moment_2.world run.moment_3 refl refl), still run.moment_3.world run.moment_4 refl refl), still run.moment_4.world run.moment_5 refl refl), begins), still run.moment_6.world run.moment_7 refl refl), still run.moment_7.world run.moment_8 refl refl), still run.moment_8.world run.moment_9 refl refl), still run.moment_9.world run.moment_10 refl refl), still run.moment_10.world run.moment_11 refl refl), still run.moment_11.world run.moment_12 refl refl)

pub is_legal : {State : Type 0} (service : ℕ → Machine State) → TwinLegal (λ kind. quiet (service kind)) run.schedule run.trace
is_legal service = record { joint = joint (service (kind_of run.schedule.service)); events_are = refl; allowed = allowed }

-- the flat trace
pub flat_is : events_in (flat (twin_start run.schedule) run.trace).trace ≡ run.flat_events
unfolding laws
flat_is = refl

pub survivor : run.moment_12.world.pair.head.log ≡ path.log_with (path.opened_entry ∷ [])
unfolding laws
survivor = refl

pub stopped : run.moment_12.world.pair.tail.log ≡ path.log_with []
unfolding laws
stopped = refl

-- What doesn't happen

-- a paired head sends nothing to the server
pub says_nothing : (head : Head) (comes : Comes) → head.alone ≡ false → (head_does comes head).to_server ≡ []
says_nothing head (Asks request) paired =
    ap (λ (d : Does Head). d.to_server) (if_false head.alone (head_alone request head) (head_paired request head) paired)
    ∙ holds_either_way (λ (d : Does Head). d.to_server ≡ []) (is_answer request.message.body) (nothing head) _ refl
    (holds_either_way (λ (d : Does Head). d.to_server ≡ []) (has_room head) (head_takes request head) (sends_waiting head) refl refl)
says_nothing head (Reports (Got number)) paired = holds_either_way (λ (d : Does Head). d.to_server ≡ []) head.alone (nothing head) _ refl refl
says_nothing head (Reports (Forward number request)) paired = refl
says_nothing head Is_noise paired = refl

pub no_answer : {State : Type 0} (service : Machine State) (after : TwinWorld) → TwinHappens service run.moment_7.world (Usual (events.Deliver 6)) run.answers_itself after → ⊥
unfolding laws messages.spelling_by messages.spelled messages.header
no_answer service after t =
    let comes : ParcelComes service (Outside path.packet_4) run.moment_7.world run.answers_itself after =
    subst (λ parcel. ParcelComes service parcel run.moment_7.world run.answers_itself after) (sym (some_is (Outside path.packet_4) t.0 t.1)) t.2 in
    true≢false (sym (ap (λ parcels. length (outside parcels) == 0) comes.0))

pub no_second_stop : {State : Type 0} (service : Machine State) (part : Part) (after : TwinWorld) → TwinHappens service run.moment_9.world (Stop part) [] after → ⊥
no_second_stop service part after t = true≢false t.1
