-- A whole tick.
use Rattle.std.proofs.Common.{◌≡◌, ◌∙◌, inl, inr, ℕ, ◌+◌, ◌≤◌, ◌-◌, ◌^◌, Bool, true, false, refl, sym, ap, ap₂, subst, map, flat_map, option_map, Some, List, [], ◌∷◌, ◌++◌, append-nil, length, if◌then◌else◌}
use Rattle.std.specs.List.{AllByRecursion}
use Rattle.std.specs.Option.{option_to_list}
use Rattle.std.specs.Map.{lookup, keys_of}
use Rattle.std.proofs.lemmas.List.{map-append}
use Rattle.ft_io.specs.declared.Key.{Key}
use Rattle.ft_io.specs.Key.{key_eq}
use Rattle.ft_io.proofs.Choices.{by_cases, if_true, if_false}
use Rattle.server_trait.specs.Service.{Machine}
use Rattle.server_trait.specs.declared.Service.{Ghosts}
use Rattle.tcp_rules.specs.Profile.{grammar_of}
use Rattle.ft_model.specs.Keys.{AreDistinct}
use Rattle.ft_model.specs.Network.{Packet}
use Rattle.ft_model.specs.Node.{Node, Place, Stage, key_of, place_at}
use Rattle.ft_model.specs.Node.Input.{Tick_comes}
use Rattle.ft_model.specs.Node.Stage.{Asking, Fetching, Serving}
use Rattle.ft_model.specs.ServingTurn.{newcomers}
use Rattle.ft_model.specs.Wire.{wire_by, HasWireBy}
use Rattle.ft_model.proofs.Keys.{all_from_get, finds_itself}
use Rattle.ft_model.proofs.Lists.{all_append}
use Rattle.long_laws.specs.LongTrace.{places_at}
use Rattle.long_laws.specs.Quarantine.{quarantine_of, quarantined_at, forgets}
use Rattle.lasting_laws.specs.LastingTurn as law
use Rattle.lasting_laws.specs.LastingTurn.{TendsAll, after_turn}
use Rattle.lasting_laws.specs.LastingTurn.LastingInput.{Usual_comes}
use Rattle.lasting_laws.proofs.ByKey.{serves_on, quarantines_differ}
use Rattle.lasting_laws.proofs.Ticks.{Tending}
use Rattle.lasting_lives.specs.Known.{LivesStand, LifeStands}
use Rattle.lasting_lives.specs.declared.life.Life.{Life}
use Rattle.lasting_lives.specs.Lives.{older, all_older}
use Rattle.node_serving.specs.Identity.{node_of, service_of, grammar_in}
use Rattle.server_node.specs.Places.{slots_at, is_serving}
use Rattle.server_node.specs.Stages.{StageStands}
use Rattle.lasting_node.specs.declared.node.LastingNode.{LastingNode}
use Rattle.lasting_node.specs.Tending.{with_node, TendsEach, SendsOnly, forgets_due}
use Rattle.lasting_node.specs.Turns.{LastingStands, LastingTurns, NodeWent, NodeProceeds, GoesAlone, known_of, sent_by, forget_wire}
use Rattle.lasting_node.proofs.Due.{in_order, all_forgets}
use Rattle.lasting_node.proofs.Going.{lives_same, serving_of, restarting_of, IsRestarting, restarts_on, waits_on}
use Rattle.lasting_node.proofs.Leaving.{same_stands}
use Rattle.lasting_node.proofs.Passing.{own_node, serving_known}
use Rattle.lasting_node.proofs.Tended.{slot_keys, all_tended}

-- places that are to be tended are those of the node
pub all_tending : (node : Node) (opened : ℕ) (places : List Place) → node.stage ≡ Serving opened places → AreDistinct (map key_of places) → Tending node places
all_tending node opened places at d = record {
  opened = opened;
  places = places;
  at = at;
  apart = d;
  left_apart = d;
  there = all_from_get (λ place. place_at (key_of place) places ≡ Some place) places (λ i x e. finds_itself key_of places i x d e);
}

-- a node that restarts doesn't serve
not_both : {P : Type 0} (node : Node) (opened : ℕ) (places : List Place) → IsRestarting node.stage → node.stage ≡ Serving opened places → P
not_both node opened places (inl at) e = let f : Asking ≡ Serving opened places = sym at ∙ e in absurd (cc)
not_both node opened places (inr (count, fetched, at)) e = let f : Fetching count fetched ≡ Serving opened places = sym at ∙ e in absurd (cc)

-- what is known of each key once all is a tick older
pub older_known : (key : Key) (lives : List (Key × Life)) → lookup (key_eq key) (all_older lives) ≡ option_map older (lookup (key_eq key) lives)
older_known key [] = refl
older_known key (e ∷ lives) =
    by_cases (key_eq key e.0)
    (λ t. if_true (key_eq key e.0) (Some (older e.1)) (lookup (key_eq key) (all_older lives)) t ∙ ap (option_map older) (sym (if_true (key_eq key e.0) (Some e.1) (lookup (key_eq key) lives) t)))
    (λ f. if_false (key_eq key e.0) (Some (older e.1)) (lookup (key_eq key) (all_older lives)) f
    ∙ (older_known key lives ∙ ap (option_map older) (sym (if_false (key_eq key e.0) (Some e.1) (lookup (key_eq key) lives) f))))

module _ {S : Type 0} {s : Ghosts S} (was : LastingNode S s) (own : was.is_own ≡ false) where
  abbrev service : Machine S
  service = service_of s was.node.who

  -- it served before a tick after which it serves
  was_serving : (n : law.LastingNode) (mid : LastingNode S s) (w : NodeWent service n Tick_comes mid) → LastingStands service n was → is_serving mid.node.stage ≡ true → is_serving was.node.stage ≡ true
  was_serving n mid w st serves =
      by_cases (is_serving was.node.stage) (λ t. t)
      (λ f.
      let later = restarts_on service n Tick_comes w.later w.packets (restarting_of service n.node was.node.stage st.stage f) refl w.turn in
      let x = serving_of service w.later mid.node.stage w.stands serves in
      not_both w.later x.opened x.places later x.is)

  -- a server that restarts has nothing to tend
  pub ticks_early : (now : LastingNode S s) → NodeProceeds Tick_comes was now → GoesAlone was now → is_serving now.node.stage ≡ false
      → LastingTurns (Usual_comes Tick_comes) was now (sent_by now)
  ticks_early now proceeds alone waits = λ n fair st.
      let w = proceeds n (fair.near refl refl) fair.sound (own_node service n was st) in
      let after : law.LastingNode = after_turn n Tick_comes w.later in
      let restarts : IsRestarting w.later.stage = restarting_of service w.later now.node.stage w.stands waits in
      let none : places_at w.later.stage ≡ [] = no_places w.later restarts in
      let empty : after.quarantine ≡ [] = ap (flat_map (quarantine_of n.node Tick_comes n.quarantine)) none in
      record {
        after = after;
        packets = record { packets = w.packets; forgets = [] };
        stands = record {
          who = w.who;
          stage = w.stands;
          lives = lives_same after w.later.stage (known_of was) (known_of now) (λ key. ap (λ l. lookup (key_eq key) l) (sym alone.lives)) (still_known n w st restarts (is_serving was.node.stage) refl);
          apart = quarantines_differ n.node Tick_comes n.quarantine (places_at w.later.stage) w.apart;
        };
        turn = record {
          later = w.later;
          last = w.later;
          first = w.packets;
          rest = [];
          turn = w.turn;
          tends = subst (λ l. TendsAll service was.patience.silence after.watches w.later l [] w.later) (sym none) (refl, refl);
          sent_is = ap₂ (λ (a : List Packet) (b : List Rattle.long_laws.specs.Forgetting.ForgetMessage). let sent : law.LastingSent = record { packets = a; forgets = b } in sent) (sym (append-nil w.packets))
              (sym (ap (λ qs. forgets was.patience.wait n.node.boot Tick_comes qs) empty));
          after_is = refl;
        };
        wires = ap (λ (b : Bool). if b then now.own.sent.items else now.node.turn.sent.items) (alone.is_own ∙ own) ∙ (w.wires ∙ sym (append-nil (map (wire_by (grammar_of n.node.profile)) w.packets)));
        spelled = w.spelled;
      }
    where
      no_places : (node : Node) → IsRestarting node.stage → places_at node.stage ≡ []
      no_places node (inl at) = ap places_at at
      no_places node (inr (count, fetched, at)) = ap places_at at

      still_known : (n : law.LastingNode) (w : NodeWent service n Tick_comes now) → LastingStands service n was → IsRestarting w.later.stage → (b : Bool) → is_serving was.node.stage ≡ b
          → LivesStand (after_turn n Tick_comes w.later) w.later.stage (known_of was)
      still_known n w st restarts true e =
          let x = serving_of service n.node was.node.stage st.stage e in
          let served = serves_on service n.node w.later Tick_comes x.opened x.places w.packets x.is refl w.turn in
          not_both w.later (x.opened + length (newcomers n.node Tick_comes x.opened x.places)) served.0 restarts served.1
      still_known n w st restarts false e =
          waits_on service n Tick_comes w.later w.packets (known_of was) (restarting_of service n.node was.node.stage st.stage e) refl w.turn st.lives

  -- once the node has taken its turn and all is a tick older
  pub ticked : (n : law.LastingNode) (mid aged : LastingNode S s) (w : NodeWent service n Tick_comes mid) → LastingStands service n was → is_serving was.node.stage ≡ true → aged.node ≡ mid.node
      → ((key : Key) → known_of aged key ≡ option_map older (known_of was key)) → LastingStands service (after_turn n Tick_comes w.later) aged
  ticked n mid aged w st serves node known = record {
    who = w.who ∙ ap (λ x. node_of x.who w.later.stage) (sym node);
    stage = subst (λ x. StageStands service w.later x.stage) (sym node) w.stands;
    lives = serving_known service n Tick_comes was aged (record {
      later = w.later;
      packets = w.packets;
      turn = w.turn;
      who = w.who ∙ ap (λ x. node_of x.who w.later.stage) (sym node);
      stands = subst (λ x. StageStands service w.later x.stage) (sym node) w.stands;
      before = w.before;
      apart = w.apart;
      wires = subst (λ x. x.turn.sent.items ≡ map (wire_by (grammar_of n.node.profile)) w.packets) (sym node) w.wires;
      spelled = w.spelled;
    }) (serving_of service n.node was.node.stage st.stage serves) refl (λ key. sym (known key)) st;
    apart = quarantines_differ n.node Tick_comes n.quarantine (places_at w.later.stage) w.apart;
  }

  -- the whole: `mid` after the node's turn, `aged` once its packets are copied and all is a tick older, `tended` once all places are tended
  pub ticks_on : (mid aged tended now : LastingNode S s) → was.patience.wait ≤ 2 ^ 32 - 1 → NodeProceeds Tick_comes was mid → GoesAlone was mid → is_serving mid.node.stage ≡ true
      → aged.node ≡ mid.node → aged.patience ≡ was.patience → ((key : Key) → known_of aged key ≡ option_map older (known_of was key)) → aged.own.sent.items ≡ mid.node.turn.sent.items
      → ((m : law.LastingNode) → LastingStands (service_of s aged.node.who) m aged → TendsEach m aged tended) → tended.node.who ≡ aged.node.who → tended.patience ≡ aged.patience
      → now.own.sent.items ≡ tended.own.sent.items ++ forgets_due tended (keys_of (slots_at tended.node.stage)) → SendsOnly tended now → now.is_own ≡ true
      → LastingTurns (Usual_comes Tick_comes) was now (sent_by now)
  ticks_on mid aged tended now small proceeds alone serves node patience known copied tends who patience_too forgotten only now_own = λ n fair st.
      let w = proceeds n (fair.near refl refl) fair.sound (own_node service n was st) in
      let after : law.LastingNode = after_turn n Tick_comes w.later in
      let same_who : aged.node.who ≡ was.node.who = ap (λ x. x.who) node ∙ alone.who in
      let stands : LastingStands service after aged = ticked n mid aged w st (was_serving n mid w st serves) node known in
      let t : TendsEach after aged tended = tends after (subst (λ x. LastingStands (service_of s x) after aged) (sym same_who) stands) in
      let m : law.LastingNode = with_node t.last after in
      let tended_stands : LastingStands service m tended = subst (λ x. LastingStands (service_of s x) m tended) same_who t.tended.stands in
      let keys : map key_of (places_at t.last.stage) ≡ keys_of (slots_at tended.node.stage) = slot_keys service t.last tended.node.stage tended_stands.stage in
      let grammar : grammar_in aged.node.who ≡ grammar_of n.node.profile = ap grammar_in same_who ∙ sym (ap (λ x. grammar_of x.profile) st.who) in
      let wait : tended.patience.wait ≡ was.patience.wait = ap (λ x. x.wait) (patience_too ∙ patience) in
      let end = all_tended (service_of s aged.node.who) aged.patience.silence after.watches (places_at w.later.stage) w.later t.last t.packets (begins n w st) t.tends in
      record {
        after = m;
        packets = record { packets = w.packets ++ t.packets; forgets = forgets was.patience.wait n.node.boot Tick_comes after.quarantine };
        stands = same_stands service m tended now only tended_stands;
        turn = record {
          later = w.later;
          last = t.last;
          first = w.packets;
          rest = t.packets;
          turn = w.turn;
          tends = subst (λ x. TendsAll (service_of s x) was.patience.silence after.watches w.later (places_at w.later.stage) t.packets t.last) same_who
              (subst (λ x. TendsAll (service_of s aged.node.who) x.silence after.watches w.later (places_at w.later.stage) t.packets t.last) patience t.tends);
          sent_is = refl;
          after_is = refl;
        };
        wires = ap (λ (b : Bool). if b then now.own.sent.items else now.node.turn.sent.items) now_own
            ∙ (forgotten
            ∙ ap₂ (λ a b. a ++ b)
            (t.tended.wires
            ∙ (ap₂ (λ a g. a ++ map (wire_by g) t.packets) (copied ∙ w.wires) grammar ∙ sym (map-append (wire_by (grammar_of n.node.profile)) w.packets t.packets)))
            (due n w t.last tended_stands st keys wait end.0 end.1));
        spelled = all_append (HasWireBy (grammar_of n.node.profile)) w.packets t.packets w.spelled (subst (λ g. AllByRecursion (HasWireBy g) t.packets) grammar t.tended.spelled);
      }
    where
      begins : (n : law.LastingNode) (w : NodeWent service n Tick_comes mid) → LastingStands service n was → Tending w.later (places_at w.later.stage)
      begins n w st =
          let x = serving_of service n.node was.node.stage st.stage (was_serving n mid w st serves) in
          let served = serves_on service n.node w.later Tick_comes x.opened x.places w.packets x.is refl w.turn in
          subst (λ l. Tending w.later l) (sym (ap places_at served.1))
          (all_tending w.later (x.opened + length (newcomers n.node Tick_comes x.opened x.places)) served.0 served.1 (subst (λ y. AreDistinct (map key_of (places_at y))) served.1 w.apart))

      by_key : (n : law.LastingNode) (at : Stage) (opened : ℕ) (places : List Place) → at ≡ Serving opened places → LivesStand n at (known_of tended) → (key : Key)
          → LifeStands n key (place_at key (places_at at)) (known_of tended key)
      by_key n at opened places e st key =
          subst (λ x. LifeStands n key (place_at key (places_at x)) (known_of tended key)) (sym e) ((subst (λ x. LivesStand n x (known_of tended)) e st) key)

      due : (n : law.LastingNode) (w : NodeWent service n Tick_comes mid) (last : Node) → LastingStands service (with_node last (after_turn n Tick_comes w.later)) tended → LastingStands service n was
          → map key_of (places_at last.stage) ≡ keys_of (slots_at tended.node.stage) → tended.patience.wait ≡ was.patience.wait → Tending last []
          → map key_of (places_at last.stage) ≡ map key_of (places_at w.later.stage)
          → forgets_due tended (keys_of (slots_at tended.node.stage)) ≡ map forget_wire (forgets was.patience.wait n.node.boot Tick_comes (after_turn n Tick_comes w.later).quarantine)
      due n w last stands st keys wait end kept =
          let m : law.LastingNode = with_node last (after_turn n Tick_comes w.later) in
          let boot : tended.node.who.boot ≡ last.boot = sym (ap (λ x. x.boot) stands.who) in
          let same_boot : last.boot ≡ n.node.boot =
          ap (λ x. x.boot) stands.who ∙ (ap (λ x. x.boot) who ∙ (ap (λ x. x.who.boot) node ∙ (ap (λ x. x.boot) alone.who ∙ sym (ap (λ x. x.boot) st.who)))) in
          let order : m.quarantine ≡ flat_map (λ key. option_to_list (quarantined_at key m.quarantine)) (keys_of (slots_at tended.node.stage)) =
          in_order n.node Tick_comes n.quarantine w.later.stage w.apart ∙ ap (flat_map (λ key. option_to_list (quarantined_at key m.quarantine))) (sym kept ∙ keys) in
          sym (ap₂ (λ x b. map forget_wire (forgets x b Tick_comes m.quarantine)) (sym wait) (sym same_boot)
          ∙ all_forgets m tended (subst (λ x. x ≤ 2 ^ 32 - 1) (sym wait) small) boot (keys_of (slots_at tended.node.stage)) (λ key. place_at key (places_at last.stage))
          (by_key m last.stage end.opened end.places end.at stands.lives) order)
