-- What a turn of the node makes of a server that lasts.
use Rattle.std.proofs.Common.{◌≡◌, ◌∙◌, ◌⊎◌, inl, inr, ℕ, Bool, true, false, refl, sym, ap, subst, true≢false, List, [], append-nil, map, Option}
use Rattle.std.specs.Prelude.{find, if◌then◌else◌}
use Rattle.std.specs.List.{AllByRecursion, IsDistinct, flat_map}
use Rattle.std.specs.Map.{keys_of, lookup}
use Rattle.ft_io.specs.declared.Key.{Key}
use Rattle.ft_io.specs.Key.{key_eq}
use Rattle.server_trait.specs.Service.{Machine}
use Rattle.server_trait.specs.declared.Service.{Ghosts}
use Rattle.ft_model.specs.Keys.{AreDistinct}
use Rattle.ft_model.specs.Lawful.{IsNearInput, IsSoundInput, LawfulTurn, StageTurn}
use Rattle.ft_model.specs.Network.{Packet}
use Rattle.ft_model.specs.Node.{Node, Place, Input, key_of}
use Rattle.ft_model.specs.Node.{Stage as law_stage}
use Rattle.ft_model.specs.Node.Input.{Packet_comes, Message_comes, Noise_comes, Tick_comes}
use Rattle.ft_model.specs.Node.Stage.{Asking, Fetching, Serving, Fenced}
use Rattle.ft_model.specs.Restart.{Fetched}
use Rattle.ft_model.specs.Wire.{Wire, wire_by, HasWireBy}
use Rattle.tcp_rules.specs.Profile.{grammar_of}
use Rattle.long_laws.specs.LongTrace.{places_at}
use Rattle.long_laws.specs.Quarantine.{quarantine_of, quarantine_after}
use Rattle.lasting_laws.specs.LastingTurn as law
use Rattle.lasting_laws.specs.LastingTurn.{LastingInput, LastingTurn, GoesUsually, after_turn}
use Rattle.lasting_laws.specs.LastingTurn.LastingInput.{Usual_comes}
use Rattle.lasting_laws.proofs.ByKey.{quarantines_differ}
use Rattle.lasting_lives.specs.declared.life.Life.{Life}
use Rattle.lasting_lives.specs.Known.{LivesStand, LifeStands, FetchedStands}
use Rattle.lasting_lives.proofs.Kept.{is_message}
use Rattle.node_serving.specs.Identity.{node_of, service_of}
use Rattle.node_serving.specs.ServingStage.{ServingStands}
use Rattle.node_serving.specs.declared.serving.Serving.{Serving as CodeServing}
use Rattle.node_serving.proofs.MarkedServed.{places_apart}
use Rattle.server_node.specs.NodeTurns.{NodeTurns}
use Rattle.server_node.specs.Places.{slots_at, is_serving}
use Rattle.server_node.specs.Stages.{StageStands, NodeGoes}
use Rattle.server_node.specs.declared.stage.Stage.{Stage}
use Rattle.server_node.specs.declared.stage.Stage.TheVariants as stage
use Rattle.lasting_node.specs.declared.node.LastingNode.{LastingNode}
use Rattle.lasting_node.specs.Turns.{LastingStands, LastingTurns, LastingGoes, IsFairTo, NodeWent, OwnNodeStands, known_of, patience_of, sent_by}

-- no key has two places where none has two slots
pub places_differ : {S : Type 0} (service : Machine S) (node : Node) (at : Stage S) → StageStands service node at → IsDistinct key_eq (keys_of (slots_at at)) → AreDistinct (map key_of (places_at node.stage))
places_differ service node stage.Asking st d = subst (λ x. AreDistinct (map key_of (places_at x))) (sym st) tt
places_differ service node (stage.Fetching f) st d = subst (λ x. AreDistinct (map key_of (places_at x))) (sym st.2) tt
places_differ service node (stage.Serving s) st d =
    subst (λ x. AreDistinct (map key_of (places_at x))) (sym st.2) (places_apart service node s.slots.entries st.1 st.3.slots d)
places_differ service node (stage.Marked m) st d = absurd st
places_differ service node stage.Lost st d = absurd st

pub went : {S : Type 0} {s : Ghosts S} (n : law.LastingNode) (input : Input) (was now : LastingNode S s) → NodeTurns input was.node now.node now.node.turn.sent.items
    → now.node.who ≡ was.node.who → IsDistinct key_eq (keys_of (slots_at was.node.stage)) → IsDistinct key_eq (keys_of (slots_at now.node.stage))
    → IsNearInput n.node.server input n.node.stage → IsSoundInput (service_of s was.node.who) n.node input n.node.stage
    → OwnNodeStands (service_of s was.node.who) n was → NodeWent (service_of s was.node.who) n input now
went {S} {s} n input was now t same d e near sound st =
    let service : Machine S = service_of s was.node.who in
    let g : NodeGoes service (node_of was.node.who n.node.stage) input was.node.who now.node.stage now.node.turn.sent.items =
    t.turn n.node.stage (subst (λ x. IsNearInput x.server input n.node.stage) st.who near) (subst (λ x. IsSoundInput service x input n.node.stage) st.who sound)
    (subst (λ x. StageStands service x was.node.stage) st.who st.stage) in
    record {
      later = node_of was.node.who g.after;
      packets = g.packets;
      turn = subst (λ x. LawfulTurn service x input g.packets (node_of was.node.who g.after)) (sym st.who) g.turn;
      who = ap (λ w. node_of w g.after) (sym same);
      stands = g.stands;
      before = places_differ service n.node was.node.stage st.stage d;
      apart = places_differ service (node_of was.node.who g.after) now.node.stage g.stands e;
      wires = subst (λ x. now.node.turn.sent.items ≡ map (wire_by (grammar_of x.profile)) g.packets) (sym st.who) g.wires;
      spelled = subst (λ x. AllByRecursion (HasWireBy (grammar_of x.profile)) g.packets) (sym st.who) g.spelled;
    }

-- the turn of a server without quarantine
pub usually : {S : Type 0} {s : Ghosts S} (service : Machine S) (n : law.LastingNode) (input : Input) (now : LastingNode S s) (w : NodeWent service n input now)
    → GoesUsually service n input (record { packets = w.packets; forgets = [] }) (after_turn n input w.later)
usually service n input now w = record { later = w.later; packets = w.packets; turn = w.turn; sent_is = refl; after_is = refl }

-- .. after which the server corresponds to that of the law, if what it knows of its keys does
pub goes : {S : Type 0} {s : Ghosts S} (service : Machine S) (n : law.LastingNode) (input : Input) (was now : LastingNode S s) (w : NodeWent service n input now)
    → LivesStand (after_turn n input w.later) w.later.stage (known_of now)
    → LastingTurn service (patience_of was.patience) n (Usual_comes input) (record { packets = w.packets; forgets = [] }) (after_turn n input w.later)
    → now.is_own ≡ false → LastingGoes service n (Usual_comes input) was now (sent_by now)
goes service n input was now w l t own = record {
  after = after_turn n input w.later;
  packets = record { packets = w.packets; forgets = [] };
  stands = record { who = w.who; stage = w.stands; lives = l; apart = quarantines_differ n.node input n.quarantine (places_at w.later.stage) w.apart };
  turn = t;
  wires = ap (λ (b : Bool). if b then now.own.sent.items else now.node.turn.sent.items) own ∙ (w.wires ∙ sym (append-nil (map (wire_by (grammar_of n.node.profile)) w.packets)));
  spelled = w.spelled;
}

-- what is known is told key by key
pub lives_same : (n : law.LastingNode) (at : law_stage) (f g : Key → Option Life) → ((key : Key) → f key ≡ g key) → LivesStand n at f → LivesStand n at g
lives_same n (Serving opened places) f g e st = λ key. subst (LifeStands n key _) (e key) (st key)
lives_same n (Fetching count fetched) f g e st = (st.0, λ key. subst (FetchedStands (find (λ x. key_eq x.head.key key) fetched)) (e key) (st.1 key))
lives_same n Asking f g e st = (st.0, λ key. sym (e key) ∙ st.1 key)
lives_same n (Fenced newer) f g e st = tt

-- the stages
pub record IsServing {S : Type 0} (service : Machine S) (node : Node) (at : Stage S) : Type 0 where
  pub opened : ℕ
  pub places : List Place
  pub is : node.stage ≡ Serving opened places
  pub code : CodeServing S
  pub code_is : at ≡ stage.Serving code
  pub stands : ServingStands service node opened places code

pub serving_of : {S : Type 0} (service : Machine S) (node : Node) (at : Stage S) → StageStands service node at → is_serving at ≡ true → IsServing service node at
serving_of service node (stage.Serving s) st e = record { opened = st.0; places = st.1; is = st.2; code = s; code_is = refl; stands = st.3 }
serving_of service node stage.Asking st e = absurd (true≢false (sym e))
serving_of service node (stage.Fetching f) st e = absurd (true≢false (sym e))
serving_of service node (stage.Marked m) st e = absurd st
serving_of service node stage.Lost st e = absurd st

abbrev pub IsRestarting : law_stage → Type 0
IsRestarting at = (at ≡ Asking) ⊎ ((count : ℕ) × (fetched : List Fetched) × (at ≡ Fetching count fetched))

pub restarting_of : {S : Type 0} (service : Machine S) (node : Node) (at : Stage S) → StageStands service node at → is_serving at ≡ false → IsRestarting node.stage
restarting_of service node stage.Asking st e = inl st
restarting_of service node (stage.Fetching f) st e = inr (st.0, st.1, st.2)
restarting_of service node (stage.Serving s) st e = absurd (true≢false e)
restarting_of service node (stage.Marked m) st e = absurd st
restarting_of service node stage.Lost st e = absurd st

-- a node that restarts stays as it is on anything but a message
module _ {State : Type 0} (service : Machine State) (n : law.LastingNode) where
  asking_stays : (input : Input) (later : Node) (sent : List Packet) → is_message input ≡ false → n.node.stage ≡ Asking → LawfulTurn service n.node input sent later → later.stage ≡ Asking
  asking_stays (Packet_comes segment) later sent calm at t = (subst (λ x. StageTurn service n.node x (Packet_comes segment) later.stage sent) at t.stage).0
  asking_stays Noise_comes later sent calm at t = (subst (λ x. StageTurn service n.node x Noise_comes later.stage sent) at t.stage).0
  asking_stays Tick_comes later sent calm at t = (subst (λ x. StageTurn service n.node x Tick_comes later.stage sent) at t.stage).0
  asking_stays (Message_comes message) later sent calm at t = absurd (true≢false calm)

  fetching_stays : (input : Input) (later : Node) (sent : List Packet) (count : ℕ) (fetched : List Fetched) → is_message input ≡ false → n.node.stage ≡ Fetching count fetched
      → LawfulTurn service n.node input sent later → later.stage ≡ Fetching count fetched
  fetching_stays (Packet_comes segment) later sent count fetched calm at t = (subst (λ x. StageTurn service n.node x (Packet_comes segment) later.stage sent) at t.stage).0
  fetching_stays Noise_comes later sent count fetched calm at t = (subst (λ x. StageTurn service n.node x Noise_comes later.stage sent) at t.stage).0
  fetching_stays Tick_comes later sent count fetched calm at t = (subst (λ x. StageTurn service n.node x Tick_comes later.stage sent) at t.stage).0
  fetching_stays (Message_comes message) later sent count fetched calm at t = absurd (true≢false calm)

  pub restarts_on : (input : Input) (later : Node) (sent : List Packet) → IsRestarting n.node.stage → is_message input ≡ false → LawfulTurn service n.node input sent later → IsRestarting later.stage
  restarts_on input later sent (inl at) calm t = inl (asking_stays input later sent calm at t)
  restarts_on input later sent (inr (count, fetched, at)) calm t = inr (count, fetched, fetching_stays input later sent count fetched calm at t)

  none_after : (input : Input) (at : law_stage) → places_at at ≡ [] → quarantine_after n.node input at n.quarantine ≡ []
  none_after input at none = ap (flat_map (quarantine_of n.node input n.quarantine)) none

  pub waits_on : (input : Input) (later : Node) (sent : List Packet) (lives : Key → Option Life) → IsRestarting n.node.stage → is_message input ≡ false
      → LawfulTurn service n.node input sent later → LivesStand n n.node.stage lives → LivesStand (after_turn n input later) later.stage lives
  waits_on input later sent lives (inl at) calm t st =
      let before = subst (λ x. LivesStand n x lives) at st in
      let stays : later.stage ≡ Asking = asking_stays input later sent calm at t in
      subst (λ x. LivesStand (after_turn n input later) x lives) (sym stays) (none_after input later.stage (ap places_at stays), before.1)
  waits_on input later sent lives (inr (count, fetched, at)) calm t st =
      let before = subst (λ x. LivesStand n x lives) at st in
      let stays : later.stage ≡ Fetching count fetched = fetching_stays input later sent count fetched calm at t in
      subst (λ x. LivesStand (after_turn n input later) x lives) (sym stays) (none_after input later.stage (ap places_at stays), before.1)

  pub none_quarantined : (lives : Key → Option Life) → IsRestarting n.node.stage → LivesStand n n.node.stage lives → n.quarantine ≡ []
  none_quarantined lives (inl at) st = (subst (λ x. LivesStand n x lives) at st).0
  none_quarantined lives (inr (count, fetched, at)) st = (subst (λ x. LivesStand n x lives) at st).0

-- what the last turn sent doesn't matter
pub from_own : {S : Type 0} {s : Ghosts S} (i : LastingInput) (was mid now : LastingNode S s) (sent : List Wire) → mid.node ≡ was.node → mid.patience ≡ was.patience → mid.lives ≡ was.lives
    → LastingTurns i mid now sent → LastingTurns i was now sent
from_own {S} {s} i was mid now sent node patience lives t = λ n fair st.
    let fair_too : IsFairTo (service_of s mid.node.who) (patience_of mid.patience) n i =
    subst (λ x. IsFairTo (service_of s x.who) (patience_of mid.patience) n i) (sym node) (subst (λ p. IsFairTo (service_of s was.node.who) (patience_of p) n i) (sym patience) fair) in
    let before : LastingStands (service_of s was.node.who) n mid = record {
      who = st.who ∙ ap (λ x. node_of x.who n.node.stage) (sym node);
      stage = subst (λ x. StageStands (service_of s was.node.who) n.node x.stage) (sym node) st.stage;
      lives = lives_same n n.node.stage (known_of was) (known_of mid) (λ key. ap (λ l. lookup (key_eq key) l) (sym lives)) st.lives;
      apart = st.apart;
    } in
    let g : LastingGoes (service_of s mid.node.who) n i mid now sent = t n fair_too (subst (λ x. LastingStands (service_of s x.who) n mid) (sym node) before) in
    record {
      after = g.after;
      packets = g.packets;
      stands = subst (λ x. LastingStands (service_of s x.who) g.after now) node g.stands;
      turn = subst (λ p. LastingTurn (service_of s was.node.who) (patience_of p) n i g.packets g.after) patience
          (subst (λ x. LastingTurn (service_of s x.who) (patience_of mid.patience) n i g.packets g.after) node g.turn);
      wires = g.wires;
      spelled = g.spelled;
    }
