-- A turn on a datagram from the clients' side.
use Rattle.std.proofs.Common.{◌≡◌, ◌∙◌, Bool, true, false, ◌&&◌, refl, sym, ap, subst, [], map, Option, None, option_map, MatchOption}
use Rattle.std.specs.Prelude.{if◌then◌else◌}
use Rattle.std.specs.Bool.{MatchBool}
use Rattle.std.specs.List.{list_any}
use Rattle.std.specs.Map.{lookup}
use Rattle.ft_io.specs.declared.Key.{Key}
use Rattle.ft_io.specs.Key.{key_eq}
use Rattle.server_trait.specs.Service.{Machine}
use Rattle.server_trait.specs.declared.Service.{Ghosts}
use Rattle.seq_arith.specs.Packet.{Segment}
use Rattle.ft_model.specs.Keys.{AreDistinct}
use Rattle.ft_model.specs.Network.{source_of}
use Rattle.ft_model.specs.Node.{Input, is_for, key_of}
use Rattle.ft_model.specs.Node.Input.{Packet_comes, Noise_comes}
use Rattle.long_laws.specs.LongTrace.{places_at}
use Rattle.long_laws.specs.Quarantine.{quarantined_at, is_leaving, is_dropped}
use Rattle.lasting_laws.specs.Closing.{is_newer, ended_by}
use Rattle.lasting_laws.specs.LastingTurn as law
use Rattle.lasting_laws.specs.LastingTurn.{LastingSent, GoesUsually, RestsLasting, EndsQuarantine, PacketTurn, Patience, after_turn}
use Rattle.lasting_laws.specs.LastingTurn.LastingInput.{Usual_comes}
use Rattle.lasting_lives.specs.Known.{LivesStand, life_after}
use Rattle.lasting_lives.specs.Lives.{receipt}
use Rattle.lasting_lives.proofs.Kept.{is_message, calm_lives}
use Rattle.node_serving.specs.Identity.{service_of}
use Rattle.server_node.specs.Places.{is_serving}
use Rattle.lasting_node.specs.declared.node.LastingNode.{LastingNode}
use Rattle.lasting_node.specs.Turns.{LastingStands, LastingTurns, NodeWent, NodeProceeds, GoesAlone, OwnNodeStands, known_of, patience_of, sent_by}
use Rattle.lasting_node.proofs.Going.{goes, usually, lives_same, IsServing, serving_of, IsRestarting, restarting_of, waits_on, none_quarantined}
use Rattle.ft_io.proofs.Booleans.{and_false}

pub own_node : {S : Type 0} {s : Ghosts S} (service : Machine S) (n : law.LastingNode) (now : LastingNode S s) → LastingStands service n now → OwnNodeStands service n now
own_node service n now st = record { who = st.who; stage = st.stage }

-- what is known stays true where the node serves, and where it restarts
pub serving_known : {S : Type 0} {s : Ghosts S} (service : Machine S) (n : law.LastingNode) (input : Input) (was now : LastingNode S s) (w : NodeWent service n input now)
    → IsServing service n.node was.node.stage → is_message input ≡ false → ((key : Key) → life_after n.node input key (known_of was key) ≡ known_of now key)
    → LastingStands service n was → LivesStand (after_turn n input w.later) w.later.stage (known_of now)
serving_known service n input was now w x calm e st =
    lives_same (after_turn n input w.later) w.later.stage (λ key. life_after n.node input key (known_of was key)) (known_of now) e
    (calm_lives service n input w.later x.opened x.places w.packets (known_of was) x.is calm (subst (λ at. AreDistinct (map key_of (places_at at))) x.is w.before) w.apart w.turn st.lives)

pub restarting_known : {S : Type 0} {s : Ghosts S} (service : Machine S) (n : law.LastingNode) (input : Input) (was now : LastingNode S s) (w : NodeWent service n input now)
    → IsRestarting n.node.stage → is_message input ≡ false → ((key : Key) → known_of was key ≡ known_of now key)
    → LastingStands service n was → LivesStand (after_turn n input w.later) w.later.stage (known_of now)
restarting_known service n input was now w x calm e st =
    lives_same (after_turn n input w.later) w.later.stage (known_of was) (known_of now) e (waits_on service n input w.later w.packets (known_of was) x calm w.turn st.lives)

abbrev none_of : (A : Type 0) → Option A
none_of A = None

pub either_none : {A : Type 0} (b : Bool) → (if b then none_of A else none_of A) ≡ none_of A
either_none true = refl
either_none false = refl

-- a segment that isn't dropped, and ends no quarantine
pub plainly : {State : Type 0} (service : Machine State) (patience : Patience) (n : law.LastingNode) (segment : Segment) (sent : LastingSent) (after : law.LastingNode)
    → is_dropped patience.wait n.node.server (Packet_comes segment) n.quarantine ≡ false → ended_by n.node.server n.ends (Packet_comes segment) n.quarantine ≡ None
    → GoesUsually service n (Packet_comes segment) sent after → PacketTurn service patience n (Packet_comes segment) sent after
plainly service patience n segment sent after kept none g =
    subst (λ b. MatchBool b (RestsLasting n sent after) (MatchOption (ended_by n.node.server n.ends (Packet_comes segment) n.quarantine) (GoesUsually service n (Packet_comes segment) sent after)
    (λ q. EndsQuarantine patience.wait n q sent after))) (sym kept)
    (subst (λ o. MatchOption o (GoesUsually service n (Packet_comes segment) sent after) (λ q. EndsQuarantine patience.wait n q sent after)) (sym none) g)

module _ {S : Type 0} {s : Ghosts S} (was now : LastingNode S s) (own : was.is_own ≡ false) (g : GoesAlone was now) where
  abbrev service : Machine S
  service = service_of s was.node.who

  now_own : now.is_own ≡ false
  now_own = g.is_own ∙ own

  known_stays : (key : Key) → known_of was key ≡ known_of now key
  known_stays key = ap (λ lives. lookup (key_eq key) lives) (sym g.lives)

  -- noise
  pub noise_passes : NodeProceeds Noise_comes was now → LastingTurns (Usual_comes Noise_comes) was now (sent_by now)
  noise_passes proceeds = λ n fair st.
      let w = proceeds n (fair.near refl refl) fair.sound (own_node service n was st) in
      goes service n Noise_comes was now w (by_stage n w st (is_serving was.node.stage) refl) (usually service n Noise_comes now w) now_own
    where
      by_stage : (n : law.LastingNode) (w : NodeWent service n Noise_comes now) → LastingStands service n was → (b : Bool) → is_serving was.node.stage ≡ b
          → LivesStand (after_turn n Noise_comes w.later) w.later.stage (known_of now)
      by_stage n w st true e = serving_known service n Noise_comes was now w (serving_of service n.node was.node.stage st.stage e) refl known_stays st
      by_stage n w st false e = restarting_known service n Noise_comes was now w (restarting_of service n.node was.node.stage st.stage e) refl known_stays st

  -- a segment for another server
  pub other_passes : (segment : Segment) → is_for was.node.who.local segment ≡ false → NodeProceeds (Packet_comes segment) was now
      → LastingTurns (Usual_comes (Packet_comes segment)) was now (sent_by now)
  other_passes segment other proceeds = λ n fair st.
      let not_ours : is_for n.node.server segment ≡ false = ap (λ x. is_for x.server segment) st.who ∙ other in
      let kept : is_dropped was.patience.wait n.node.server (Packet_comes segment) n.quarantine ≡ false =
      ap (λ b. b && list_any (λ q. key_eq q.named.key (source_of segment) && is_leaving was.patience.wait q) n.quarantine) not_ours in
      let none : ended_by n.node.server n.ends (Packet_comes segment) n.quarantine ≡ None =
      ap (λ b. if b && is_newer (n.ends (source_of segment)) segment then quarantined_at (source_of segment) n.quarantine else None) not_ours in
      let w = proceeds n (fair.near kept none) fair.sound (own_node service n was st) in
      let same : (key : Key) → life_after n.node (Packet_comes segment) key (known_of was key) ≡ known_of now key =
      λ key. ap (λ b. if b && key_eq (source_of segment) key then option_map receipt (known_of was key) else known_of was key) not_ours ∙ known_stays key in
      goes service n (Packet_comes segment) was now w (by_stage n w st same (is_serving was.node.stage) refl)
      (plainly service (patience_of was.patience) n segment (record { packets = w.packets; forgets = [] }) (after_turn n (Packet_comes segment) w.later) kept none (usually service n (Packet_comes segment) now w)) now_own
    where
      by_stage : (n : law.LastingNode) (w : NodeWent service n (Packet_comes segment) now) → LastingStands service n was
          → ((key : Key) → life_after n.node (Packet_comes segment) key (known_of was key) ≡ known_of now key) → (b : Bool) → is_serving was.node.stage ≡ b
          → LivesStand (after_turn n (Packet_comes segment) w.later) w.later.stage (known_of now)
      by_stage n w st same true e = serving_known service n (Packet_comes segment) was now w (serving_of service n.node was.node.stage st.stage e) refl same st
      by_stage n w st same false e = restarting_known service n (Packet_comes segment) was now w (restarting_of service n.node was.node.stage st.stage e) refl known_stays st

  -- a segment, while the node restarts
  pub waiting_passes : (segment : Segment) → is_serving was.node.stage ≡ false → NodeProceeds (Packet_comes segment) was now
      → LastingTurns (Usual_comes (Packet_comes segment)) was now (sent_by now)
  waiting_passes segment e proceeds = λ n fair st.
      let x : IsRestarting n.node.stage = restarting_of service n.node was.node.stage st.stage e in
      let empty : n.quarantine ≡ [] = none_quarantined service n (known_of was) x st.lives in
      let kept : is_dropped was.patience.wait n.node.server (Packet_comes segment) n.quarantine ≡ false =
      ap (is_dropped was.patience.wait n.node.server (Packet_comes segment)) empty ∙ and_false (is_for n.node.server segment) in
      let none : ended_by n.node.server n.ends (Packet_comes segment) n.quarantine ≡ None =
      ap (ended_by n.node.server n.ends (Packet_comes segment)) empty ∙ either_none (is_for n.node.server segment && is_newer (n.ends (source_of segment)) segment) in
      let w = proceeds n (fair.near kept none) fair.sound (own_node service n was st) in
      goes service n (Packet_comes segment) was now w (restarting_known service n (Packet_comes segment) was now w x refl known_stays st)
      (plainly service (patience_of was.patience) n segment (record { packets = w.packets; forgets = [] }) (after_turn n (Packet_comes segment) w.later) kept none (usually service n (Packet_comes segment) now w)) now_own
