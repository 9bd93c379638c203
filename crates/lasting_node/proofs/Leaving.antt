-- A segment of a connection in quarantine.
use Rattle.std.proofs.Common.{◌≡◌, ◌∙◌, ℕ, Bool, true, false, ◌&&◌, refl, sym, ap, ap₂, subst, true≢false, List, [], ◌∷◌, map, None, Some, Option, option_map, MatchOption, ◌≤◌, ◌^◌, ◌-◌}
use Rattle.std.specs.Prelude.{if◌then◌else◌, max}
use Rattle.std.specs.Bool.{MatchBool}
use Rattle.std.specs.Map.{lookup}
use Rattle.ft_io.specs.declared.Key.{Key}
use Rattle.ft_io.specs.Key.{key_eq}
use Rattle.ft_io.proofs.Choices.{by_cases, if_true, if_false}
use Rattle.server_trait.specs.Service.{Machine}
use Rattle.server_trait.specs.declared.Service.{Ghosts}
use Rattle.seq_arith.specs.Packet.{Segment}
use Rattle.ft_model.specs.Keys.{AreDistinct}
use Rattle.ft_model.specs.Network.{source_of}
use Rattle.ft_model.specs.Node.{Place, is_for, place_at}
use Rattle.ft_model.specs.Node.Input.{Packet_comes}
use Rattle.ft_model.specs.Node.Place.{Opens, Lives, Ended}
use Rattle.ft_model.proofs.Lists.{found_passes, same_key, key_is}
use Rattle.long_laws.specs.Forgetting.{forget}
use Rattle.long_laws.specs.Quarantine.{Quarantined, quarantined_at, is_leaving, is_dropped, early, ended_early}
use Rattle.lasting_laws.specs.Closing.{is_newer, ended_by}
use Rattle.lasting_laws.specs.LastingTurn as law
use Rattle.lasting_laws.specs.LastingTurn.{GoesUsually, RestsLasting, EndsQuarantine, nothing_sent, after_turn}
use Rattle.lasting_laws.specs.LastingTurn.LastingInput.{Usual_comes}
use Rattle.forget_wire.specs.Value.{named_said}
use Rattle.lasting_lives.specs.declared.life.Life.{Life}
use Rattle.lasting_lives.specs.declared.life.Life.TheVariants as life
use Rattle.lasting_lives.specs.declared.life.Resting.{Resting}
use Rattle.lasting_lives.specs.Known.{LivesStand, LifeStands, RestsAt, IsInQuarantine, life_after}
use Rattle.lasting_lives.specs.Lives.{resting_in, receipt, left, left_resting}
use Rattle.lasting_lives.specs.Watches.{QuarantineStands}
use Rattle.lasting_lives.proofs.Counts.{left_rests, leaving_is}
use Rattle.lasting_lives.proofs.Rests.{rests_so, none_rests, dropped_so, not_dropped, not_yet_dropped}
use Rattle.node_serving.specs.Identity.{node_of, service_of}
use Rattle.server_node.specs.Places.{is_serving}
use Rattle.server_node.specs.Stages.{StageStands}
use Rattle.lasting_node.specs.declared.node.LastingNode.{LastingNode}
use Rattle.lasting_node.specs.Tending.{SendsOnly}
use Rattle.lasting_node.specs.Turns.{LastingStands, LastingTurns, NodeProceeds, known_of, patience_of, sent_by, forget_wire}
use Rattle.lasting_node.proofs.Going.{goes, usually, lives_same, IsServing, serving_of}
use Rattle.lasting_node.proofs.Passing.{own_node, serving_known, plainly, either_none}

-- where nothing changes but what is sent
pub same_stands : {S : Type 0} {s : Ghosts S} (service : Machine S) (n : law.LastingNode) (was now : LastingNode S s) → SendsOnly was now → LastingStands service n was → LastingStands service n now
same_stands service n was now only st = record {
  who = st.who ∙ ap (λ x. node_of x.who n.node.stage) (sym only.node);
  stage = subst (λ x. StageStands service n.node x.stage) (sym only.node) st.stage;
  lives = lives_same n n.node.stage (known_of was) (known_of now) (λ key. ap (λ lives. lookup (key_eq key) lives) (sym only.lives)) st.lives;
  apart = st.apart;
}

-- A quarantine that ends early
early_named : (wait : ℕ) (k : Key) (q : Quarantined) → (early wait k q).named ≡ q.named
early_named wait k q = by (key_eq q.named.key k)
  where
    by : (b : Bool) → (if b then record q { age = max wait q.age } else q).named ≡ q.named
    by true = refl
    by false = refl

early_at : (wait : ℕ) (k key : Key) (qs : List Quarantined) → quarantined_at key (ended_early wait k qs) ≡ option_map (early wait k) (quarantined_at key qs)
early_at wait k key [] = refl
early_at wait k key (q ∷ qs) =
    by_cases (key_eq q.named.key key)
    (λ t. if_true (key_eq (early wait k q).named.key key) (Some (early wait k q)) (quarantined_at key (ended_early wait k qs)) (ap (λ n. key_eq n.key key) (early_named wait k q) ∙ t)
    ∙ ap (option_map (early wait k)) (sym (if_true (key_eq q.named.key key) (Some q) (quarantined_at key qs) t)))
    (λ f. if_false (key_eq (early wait k q).named.key key) (Some (early wait k q)) (quarantined_at key (ended_early wait k qs)) (ap (λ n. key_eq n.key key) (early_named wait k q) ∙ f)
    ∙ (early_at wait k key qs ∙ ap (option_map (early wait k)) (sym (if_false (key_eq q.named.key key) (Some q) (quarantined_at key qs) f))))

early_keys : (wait : ℕ) (k : Key) (qs : List Quarantined) → map (λ q. q.named.key) (ended_early wait k qs) ≡ map (λ q. q.named.key) qs
early_keys wait k [] = refl
early_keys wait k (q ∷ qs) = ap₂ (λ a b. a ∷ b) (ap (λ n. n.key) (early_named wait k q)) (early_keys wait k qs)

abbrev pub early_node : law.LastingNode → ℕ → Key → law.LastingNode
early_node n wait key = record n { quarantine = ended_early wait key n.quarantine }

-- of another key
other_early : (wait : ℕ) (k key : Key) (qs : List Quarantined) → key_eq k key ≡ false → quarantined_at key (ended_early wait k qs) ≡ quarantined_at key qs
other_early wait k key qs other = early_at wait k key qs ∙ by (quarantined_at key qs) refl
  where
    by : (o : Option Quarantined) → quarantined_at key qs ≡ o → option_map (early wait k) (quarantined_at key qs) ≡ quarantined_at key qs
    by None e = ap (option_map (early wait k)) e ∙ sym e
    by (Some q) e =
        let its : q.named.key ≡ key = same_key q.named.key key (found_passes (λ x. key_eq x.named.key key) qs q e) in
        let not_k : key_eq q.named.key k ≡ false = by_cases (key_eq q.named.key k)
        (λ t. absurd (true≢false (sym (subst (λ x. key_eq x key ≡ true) (same_key q.named.key k t) (subst (λ x. key_eq q.named.key x ≡ true) its (key_is q.named.key))) ∙ other))) (λ f. f) in
        ap (option_map (early wait k)) e ∙ (ap Some (if_false (key_eq q.named.key k) (record q { age = max wait q.age }) q not_k) ∙ sym e)

life_beside : (n : law.LastingNode) (wait : ℕ) (k key : Key) (o : Option Place) (l : Option Life) → key_eq k key ≡ false → LifeStands n key o l → LifeStands (early_node n wait k) key o l
life_beside n wait k key (Some (Lives p)) (Some (life.Watched w)) other st = (other_early wait k key n.quarantine other ∙ st.0, st.1)
life_beside n wait k key (Some (Lives p)) (Some (life.Resting r)) other st = absurd st
life_beside n wait k key (Some (Lives p)) None other st = absurd st
life_beside n wait k key (Some (Ended x)) (Some (life.Resting r)) other st =
    subst (λ o. MatchOption o ⊥ (λ q. QuarantineStands r q × (r.end.0 ≡ n.ends key))) (sym (other_early wait k key n.quarantine other)) st
life_beside n wait k key (Some (Ended x)) (Some (life.Watched w)) other st = absurd st
life_beside n wait k key (Some (Ended x)) None other st = absurd st
life_beside n wait k key (Some (Opens m t)) None other st = other_early wait k key n.quarantine other ∙ st
life_beside n wait k key (Some (Opens m t)) (Some x) other st = absurd st
life_beside n wait k key None None other st = other_early wait k key n.quarantine other ∙ st
life_beside n wait k key None (Some x) other st = absurd st

-- .. and of its own
none_some : {P : Type 0} (r : Resting) → None ≡ Some r → P
none_some r e = absurd (cc)

life_left : (n : law.LastingNode) (wait : ℕ) (key : Key) (o : Option Place) (l : Option Life) (r : Resting) → wait ≤ 2 ^ 32 - 1 → resting_in l ≡ Some r → LifeStands n key o l
    → LifeStands (early_node n wait key) key o (option_map (left wait) l)
life_left n wait key (Some (Lives p)) (Some (life.Watched w)) r small e st = none_some r e
life_left n wait key (Some (Lives p)) (Some (life.Resting x)) r small e st = absurd st
life_left n wait key (Some (Lives p)) None r small e st = absurd st
life_left n wait key (Some (Ended k)) (Some (life.Resting x)) r small e st = by (quarantined_at key n.quarantine) refl st
  where
    by : (o : Option Quarantined) → quarantined_at key n.quarantine ≡ o → MatchOption o ⊥ (λ q. QuarantineStands x q × (x.end.0 ≡ n.ends key))
        → RestsAt (early_node n wait key) key (Some (life.Resting (left_resting wait x)))
    by None f rest = absurd rest
    by (Some q) f rest =
        let its : key_eq q.named.key key ≡ true = found_passes (λ y. key_eq y.named.key key) n.quarantine q f in
        let there : quarantined_at key (ended_early wait key n.quarantine) ≡ Some (record q { age = max wait q.age }) =
        early_at wait key key n.quarantine ∙ (ap (option_map (early wait key)) f ∙ ap Some (if_true (key_eq q.named.key key) (record q { age = max wait q.age }) q its)) in
        subst (λ o. MatchOption o ⊥ (λ y. QuarantineStands (left_resting wait x) y × ((left_resting wait x).end.0 ≡ n.ends key))) (sym there) (left_rests wait x q small rest.0, rest.1)
life_left n wait key (Some (Ended k)) (Some (life.Watched w)) r small e st = absurd st
life_left n wait key (Some (Ended k)) None r small e st = absurd st
life_left n wait key (Some (Opens m t)) None r small e st = none_some r e
life_left n wait key (Some (Opens m t)) (Some x) r small e st = absurd st
life_left n wait key None None r small e st = none_some r e
life_left n wait key None (Some x) r small e st = absurd st

module _ {S : Type 0} {s : Ghosts S} (was now : LastingNode S s) (segment : Segment) (ours : is_for was.node.who.local segment ≡ true) (serving : is_serving was.node.stage ≡ true)
    (small : was.patience.wait ≤ 2 ^ 32 - 1) where
  abbrev service : Machine S
  service = service_of s was.node.who

  abbrev key : Key
  key = source_of segment

  to_server : (n : law.LastingNode) → LastingStands service n was → is_for n.node.server segment ≡ true
  to_server n st = ap (λ x. is_for x.server segment) st.who ∙ ours

  served : (n : law.LastingNode) → LastingStands service n was → IsServing service n.node was.node.stage
  served n st = serving_of service n.node was.node.stage st.stage serving

  its_life : (n : law.LastingNode) (st : LastingStands service n was) → (k : Key) → LifeStands n k (place_at k (served n st).places) (known_of was k)
  its_life n st = subst (λ at. LivesStand n at (known_of was)) (served n st).is st.lives

  -- one of a connection that is leaving
  pub dropped : (r : Resting) → resting_in (known_of was key) ≡ Some r → ((q : Quarantined) → QuarantineStands r q → true ≡ is_leaving was.patience.wait q)
      → SendsOnly was now → now.own.sent.items ≡ [] → now.is_own ≡ true → LastingTurns (Usual_comes (Packet_comes segment)) was now (sent_by now)
  dropped r rests leaves only empty own = λ n fair st.
      let x : IsInQuarantine n key r = rests_so n key (place_at key (served n st).places) (known_of was key) r (its_life n st key) rests in
      let old = leaving_is was.patience.wait r x.quarantined small x.stands ∙ sym (leaves x.quarantined x.stands) in
      let drops : is_dropped was.patience.wait n.node.server (Packet_comes segment) n.quarantine ≡ true =
      dropped_so n was.patience.wait n.node.server segment (to_server n st) (place_at key (served n st).places) (known_of was key) r small (its_life n st key) rests old in
      record {
        after = n;
        packets = nothing_sent;
        stands = same_stands service n was now only st;
        turn = subst (λ b. MatchBool b (RestsLasting n nothing_sent n)
            (MatchOption (ended_by n.node.server n.ends (Packet_comes segment) n.quarantine) (GoesUsually service n (Packet_comes segment) nothing_sent n)
            (λ q. EndsQuarantine was.patience.wait n q nothing_sent n))) (sym drops) (refl, refl);
        wires = ap (λ (b : Bool). if b then now.own.sent.items else now.node.turn.sent.items) own ∙ empty;
        spelled = tt;
      }

  -- what comes of a segment's key where the node takes the turn
  ours_after : (n : law.LastingNode) → LastingStands service n was → (k : Key) (l : Option Life)
      → life_after n.node (Packet_comes segment) k l ≡ (if key_eq key k then option_map receipt l else l)
  ours_after n st k l = ap (λ b. if b && key_eq key k then option_map receipt l else l) (to_server n st)

  -- a segment of a connection in quarantine that goes on
  pub waits : (r : Resting) → resting_in (known_of was key) ≡ Some r → ((q : Quarantined) → QuarantineStands r q → false ≡ is_leaving was.patience.wait q)
      → is_newer r.end.0 segment ≡ false → NodeProceeds (Packet_comes segment) was now → was.lives ≡ now.lives → now.is_own ≡ false
      → LastingTurns (Usual_comes (Packet_comes segment)) was now (sent_by now)
  waits r rests stays older proceeds same own = λ n fair st.
      let x : IsInQuarantine n key r = rests_so n key (place_at key (served n st).places) (known_of was key) r (its_life n st key) rests in
      let young = leaving_is was.patience.wait r x.quarantined small x.stands ∙ sym (stays x.quarantined x.stands) in
      let kept : is_dropped was.patience.wait n.node.server (Packet_comes segment) n.quarantine ≡ false =
      not_yet_dropped n was.patience.wait n.node.server segment (to_server n st) (place_at key (served n st).places) (known_of was key) r small st.apart (its_life n st key) rests young in
      let none : ended_by n.node.server n.ends (Packet_comes segment) n.quarantine ≡ None =
      if_false (is_for n.node.server segment && is_newer (n.ends key) segment) (quarantined_at key n.quarantine) None
      (ap (λ b. b && is_newer (n.ends key) segment) (to_server n st) ∙ (ap (λ e. is_newer e segment) (sym x.end) ∙ older)) in
      let w = proceeds n (fair.near kept none) fair.sound (own_node service n was st) in
      let known : (k : Key) → life_after n.node (Packet_comes segment) k (known_of was k) ≡ known_of now k =
      λ k. ours_after n st k (known_of was k) ∙ (by_cases (key_eq key k) (λ t. if_true (key_eq key k) (option_map receipt (known_of was k)) (known_of was k) t
      ∙ unreceived (known_of was k) r (subst (λ y. resting_in (known_of was y) ≡ Some r) (same_key key k t) rests))
      (λ f. if_false (key_eq key k) (option_map receipt (known_of was k)) (known_of was k) f) ∙ ap (λ lives. lookup (key_eq k) lives) same) in
      goes service n (Packet_comes segment) was now w (serving_known service n (Packet_comes segment) was now w (served n st) refl known st)
      (plainly service (patience_of was.patience) n segment (record { packets = w.packets; forgets = [] }) (after_turn n (Packet_comes segment) w.later) kept none (usually service n (Packet_comes segment) now w)) own
    where
      unreceived : (l : Option Life) (r : Resting) → resting_in l ≡ Some r → option_map receipt l ≡ l
      unreceived (Some (life.Resting x)) r e = refl
      unreceived (Some (life.Watched w)) r e = none_some r e
      unreceived None r e = none_some r e

  -- a segment of any other connection: its client is heard
  pub on_receipt : resting_in (known_of was key) ≡ None → NodeProceeds (Packet_comes segment) was now
      → ((k : Key) → known_of now k ≡ (if key_eq key k then option_map receipt (known_of was k) else known_of was k)) → now.is_own ≡ false
      → LastingTurns (Usual_comes (Packet_comes segment)) was now (sent_by now)
  on_receipt rests proceeds received_is own = λ n fair st.
      let kept : is_dropped was.patience.wait n.node.server (Packet_comes segment) n.quarantine ≡ false =
      not_dropped n was.patience.wait n.node.server segment (to_server n st) (place_at key (served n st).places) (known_of was key) (its_life n st key) rests in
      let empty : quarantined_at key n.quarantine ≡ None = none_rests n key (place_at key (served n st).places) (known_of was key) (its_life n st key) rests in
      let none : ended_by n.node.server n.ends (Packet_comes segment) n.quarantine ≡ None =
      ap (λ o. if is_for n.node.server segment && is_newer (n.ends key) segment then o else None) empty ∙ either_none (is_for n.node.server segment && is_newer (n.ends key) segment) in
      let w = proceeds n (fair.near kept none) fair.sound (own_node service n was st) in
      goes service n (Packet_comes segment) was now w (serving_known service n (Packet_comes segment) was now w (served n st) refl (λ k. ours_after n st k (known_of was k) ∙ sym (received_is k)) st)
      (plainly service (patience_of was.patience) n segment (record { packets = w.packets; forgets = [] }) (after_turn n (Packet_comes segment) w.later) kept none (usually service n (Packet_comes segment) now w)) own

  -- the SYN of a new connection ends the quarantine
  pub ends_early : (r : Resting) → resting_in (known_of was key) ≡ Some r → ((q : Quarantined) → QuarantineStands r q → false ≡ is_leaving was.patience.wait q)
      → is_newer r.end.0 segment ≡ true → now.node ≡ was.node → now.patience ≡ was.patience
      → ((k : Key) → known_of now k ≡ (if key_eq key k then option_map (left was.patience.wait) (known_of was k) else known_of was k))
      → now.own.sent.items ≡ forget_wire (forget was.node.who.boot (named_said r.named)) ∷ [] → now.is_own ≡ true
      → LastingTurns (Usual_comes (Packet_comes segment)) was now (sent_by now)
  ends_early r rests stays newer node patience left_is sent own = λ n fair st.
      let x : IsInQuarantine n key r = rests_so n key (place_at key (served n st).places) (known_of was key) r (its_life n st key) rests in
      let young = leaving_is was.patience.wait r x.quarantined small x.stands ∙ sym (stays x.quarantined x.stands) in
      let kept : is_dropped was.patience.wait n.node.server (Packet_comes segment) n.quarantine ≡ false =
      not_yet_dropped n was.patience.wait n.node.server segment (to_server n st) (place_at key (served n st).places) (known_of was key) r small st.apart (its_life n st key) rests young in
      let ended : ended_by n.node.server n.ends (Packet_comes segment) n.quarantine ≡ Some x.quarantined =
      if_true (is_for n.node.server segment && is_newer (n.ends key) segment) (quarantined_at key n.quarantine) None
      (ap (λ b. b && is_newer (n.ends key) segment) (to_server n st) ∙ (ap (λ e. is_newer e segment) (sym x.end) ∙ newer)) ∙ x.found in
      let its : x.quarantined.named.key ≡ key = same_key x.quarantined.named.key key (found_passes (λ q. key_eq q.named.key key) n.quarantine x.quarantined x.found) in
      let sent_law : law.LastingSent = record { packets = []; forgets = forget n.node.boot x.quarantined.named ∷ [] } in
      let lives : LivesStand (early_node n was.patience.wait key) n.node.stage (known_of now) =
      subst (λ at. LivesStand (early_node n was.patience.wait key) at (known_of now)) (sym (served n st).is)
      (λ k. subst (LifeStands (early_node n was.patience.wait key) k (place_at k (served n st).places)) (sym (left_is k)) (by_cases (key_eq key k)
      (λ t. subst (LifeStands (early_node n was.patience.wait key) k (place_at k (served n st).places)) (sym (if_true (key_eq key k) (option_map (left was.patience.wait) (known_of was k)) (known_of was k) t))
      (subst (λ y. LifeStands (early_node n was.patience.wait key) y (place_at y (served n st).places) (option_map (left was.patience.wait) (known_of was y))) (same_key key k t)
      (life_left n was.patience.wait key (place_at key (served n st).places) (known_of was key) r small rests (its_life n st key))))
      (λ f. subst (LifeStands (early_node n was.patience.wait key) k (place_at k (served n st).places)) (sym (if_false (key_eq key k) (option_map (left was.patience.wait) (known_of was k)) (known_of was k) f))
      (life_beside n was.patience.wait key k (place_at k (served n st).places) (known_of was k) f (its_life n st k))))) in
      record {
        after = early_node n was.patience.wait key;
        packets = sent_law;
        stands = record {
          who = st.who ∙ ap (λ y. node_of y.who n.node.stage) (sym node);
          stage = subst (λ y. StageStands service n.node y.stage) (sym node) st.stage;
          lives = lives;
          apart = subst AreDistinct (sym (early_keys was.patience.wait key n.quarantine)) st.apart;
        };
        turn = subst (λ b. MatchBool b (RestsLasting n sent_law (early_node n was.patience.wait key))
            (MatchOption (ended_by n.node.server n.ends (Packet_comes segment) n.quarantine) (GoesUsually service n (Packet_comes segment) sent_law (early_node n was.patience.wait key))
            (λ q. EndsQuarantine was.patience.wait n q sent_law (early_node n was.patience.wait key)))) (sym kept)
            (subst (λ o. MatchOption o (GoesUsually service n (Packet_comes segment) sent_law (early_node n was.patience.wait key))
            (λ q. EndsQuarantine was.patience.wait n q sent_law (early_node n was.patience.wait key))) (sym ended)
            (refl, ap (early_node n was.patience.wait) (sym its)));
        wires = ap (λ (b : Bool). if b then now.own.sent.items else now.node.turn.sent.items) own
            ∙ (sent ∙ ap₂ (λ b m. forget_wire (forget b m) ∷ []) (ap (λ y. y.boot) (sym st.who)) x.stands.named);
        spelled = tt;
      }
