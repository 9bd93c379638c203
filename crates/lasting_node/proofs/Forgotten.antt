-- A message about forgetting comes: Forgotten takes the place away that it names.
use Rattle.std.proofs.Common.{◌≡◌, ◌∙◌, ℕ, Bool, true, false, ◌&&◌, ◌==◌, refl, sym, ap, subst, List, [], ◌∷◌, map, None, Some, Option, MatchOption, cond}
use Rattle.std.specs.Prelude.{if◌then◌else◌, find}
use Rattle.std.specs.List.{AllByRecursion, IsDistinct, list_any}
use Rattle.std.specs.Map.{keys_of, remove_entry}
use Rattle.ft_io.specs.declared.Key.{Key}
use Rattle.ft_io.specs.Key.{key_eq}
use Rattle.ft_io.proofs.Choices.{by_cases, if_true, if_false}
use Rattle.server_trait.specs.Service.{Machine}
use Rattle.server_trait.specs.declared.Service.{Ghosts}
use Rattle.std.proofs.lemmas.Bool.{or_from}
use Rattle.ft_io.proofs.Booleans.{left_false, right_false}
use Rattle.ft_model.specs.Keys.{AreDistinct, has_key}
use Rattle.ft_model.specs.Node.{Node, Place, key_of, place_at}
use Rattle.ft_model.specs.Node.Place.{Opens, Lives, Ended}
use Rattle.ft_model.specs.Node.Stage.{Serving}
use Rattle.ft_model.proofs.Lists.{found_passes, same_key, key_is}
use Rattle.ft_model.proofs.PlayableLemmas.{same_either_way}
use Rattle.long_laws.specs.Forgetting.{Named, ForgetMessage}
use Rattle.long_laws.specs.Forgetting.ForgetBody.{ForgetMsg, ForgottenMsg}
use Rattle.long_laws.specs.LongTrace.{others, stage_without}
use Rattle.long_laws.specs.Quarantine.{Quarantined, quarantined_at, is_same, named_by, taken_away}
use Rattle.lasting_laws.specs.LastingTurn as law
use Rattle.lasting_laws.specs.LastingTurn.{nothing_sent, without_place}
use Rattle.lasting_laws.specs.LastingTurn.LastingInput.{Forget_comes}
use Rattle.lasting_lives.specs.declared.life.Life.{Life}
use Rattle.lasting_lives.specs.declared.life.Life.TheVariants as life
use Rattle.lasting_lives.specs.declared.life.Resting.{Resting}
use Rattle.lasting_lives.specs.Known.{LivesStand, LifeStands, IsInQuarantine}
use Rattle.lasting_lives.specs.Lives.{resting_in}
use Rattle.lasting_lives.specs.Watches.{WatchStands, QuarantineStands}
use Rattle.lasting_lives.proofs.Rests.{rests_so, none_rests, none_passes, its_passes, its_fails}
use Rattle.node_serving.specs.Identity.{node_of, service_of}
use Rattle.node_serving.specs.ServingStage.{ServingStands}
use Rattle.node_serving.specs.Slots.{SlotStands, AllStand}
use Rattle.node_serving.specs.declared.slot.Slot.{Slot}
use Rattle.node_serving.specs.declared.slot.Slot.TheVariants as slot
use Rattle.node_serving.specs.declared.serving.Serving.{Serving as CodeServing}
use Rattle.node_serving.proofs.OneKey.{place_key}
use Rattle.server_node.specs.Places.{slots_at, is_serving, Forgets}
use Rattle.server_node.specs.Stages.{StageStands}
use Rattle.server_node.specs.declared.stage.Stage.{Stage}
use Rattle.server_node.specs.declared.stage.Stage.TheVariants as stage
use Rattle.lasting_node.specs.declared.node.LastingNode.{LastingNode}
use Rattle.lasting_node.specs.Tending.{SendsOnly}
use Rattle.lasting_node.specs.Turns.{LastingStands, LastingTurns, known_of, sent_by}
use Rattle.lasting_node.proofs.Going.{IsServing, serving_of, restarting_of, none_quarantined}
use Rattle.lasting_node.proofs.Passing.{either_none}
use Rattle.lasting_node.proofs.Leaving.{same_stands}

-- a test on a connection's numbers
abbrev has_numbers : Named → Quarantined → Bool
has_numbers n q = q.named.cisn == n.cisn && q.named.sisn == n.sisn

-- A place goes, and the others stay
module _ {S : Type 0} (service : Machine S) (node : Node) (key : Key) where
  abbrev next : Node
  next = record node { stage = stage_without key node.stage }

  slot_stays : (k : Key) (x : Slot S) (q : Place) → SlotStands service node k x q → SlotStands service next k x q
  slot_stays k (slot.Pending o) (Opens m t) st = st
  slot_stays k (slot.Live c) (Lives p) st = st
  slot_stays k slot.Done (Ended e) st = st
  slot_stays k (slot.Pending o) (Lives p) st = absurd st
  slot_stays k (slot.Pending o) (Ended e) st = absurd st
  slot_stays k (slot.Live c) (Opens m t) st = absurd st
  slot_stays k (slot.Live c) (Ended e) st = absurd st
  slot_stays k slot.Done (Opens m t) st = absurd st
  slot_stays k slot.Done (Lives p) st = absurd st

  none_goes : (es : List (Key × Slot S)) (places : List Place) → AllStand service node es places → AllByRecursion (λ k. key_eq key k ≡ false) (keys_of es)
      → AllStand service next es (others (λ p. key_eq (key_of p) key) places)
  none_goes [] [] st none = tt
  none_goes [] (q ∷ qs) st none = absurd st
  none_goes (e ∷ es) [] st none = absurd st
  none_goes (e ∷ es) (q ∷ qs) st none =
      let its : key_eq (key_of q) key ≡ false = ap (λ k. key_eq k key) (place_key service node e.0 e.1 q st.0) ∙ (same_either_way e.0 key ∙ none.0) in
      subst (λ b. AllStand service next (e ∷ es) (if b then others (λ p. key_eq (key_of p) key) qs else q ∷ others (λ p. key_eq (key_of p) key) qs)) (sym its)
      (slot_stays e.0 e.1 q st.0, none_goes es qs st.1 none.1)

  one_goes : (es : List (Key × Slot S)) (places : List Place) → AllStand service node es places → IsDistinct key_eq (keys_of es)
      → AllStand service next (remove_entry (key_eq key) es) (others (λ p. key_eq (key_of p) key) places)
  unfolding IsDistinct
  one_goes [] [] st d = tt
  one_goes [] (q ∷ qs) st d = absurd st
  one_goes (e ∷ es) [] st d = absurd st
  one_goes (e ∷ es) (q ∷ qs) st d = by (one_goes es qs st.1 d.1) (key_eq key e.0) refl
    where
      rest : List Place
      rest = others (λ p. key_eq (key_of p) key) qs

      by : AllStand service next (remove_entry (key_eq key) es) (others (λ p. key_eq (key_of p) key) qs) → (b : Bool) → key_eq key e.0 ≡ b → AllStand service next (remove_entry (key_eq key) (e ∷ es)) (others (λ p. key_eq (key_of p) key) (q ∷ qs))
      by more true t =
          let its : key_eq (key_of q) key ≡ true = subst (λ k. key_eq (key_of q) k ≡ true) (sym (same_key key e.0 t)) (ap (λ k. key_eq k e.0) (place_key service node e.0 e.1 q st.0) ∙ key_is e.0) in
          subst (λ b. AllStand service next (cond b es (e ∷ remove_entry (key_eq key) es)) (others (λ p. key_eq (key_of p) key) (q ∷ qs))) (sym t)
          (subst (λ b. AllStand service next es (if b then rest else q ∷ rest)) (sym its)
          (none_goes es qs st.1 (subst (λ k. AllByRecursion (λ y. key_eq k y ≡ false) (keys_of es)) (sym (same_key key e.0 t)) d.0)))
      by more false f =
          let its : key_eq (key_of q) key ≡ false = ap (λ k. key_eq k key) (place_key service node e.0 e.1 q st.0) ∙ (same_either_way e.0 key ∙ f) in
          subst (λ b. AllStand service next (cond b es (e ∷ remove_entry (key_eq key) es)) (others (λ p. key_eq (key_of p) key) (q ∷ qs))) (sym f)
          (subst (λ b. AllStand service next (e ∷ remove_entry (key_eq key) es) (if b then rest else q ∷ rest)) (sym its)
          (slot_stays e.0 e.1 q st.0, more))

-- what stays
module _ (key : Key) where
  gone_there : (places : List Place) → place_at key (others (λ p. key_eq (key_of p) key) places) ≡ None
  gone_there [] = refl
  gone_there (q ∷ qs) = by (gone_there qs) (key_eq (key_of q) key) refl
    where
      by : place_at key (others (λ p. key_eq (key_of p) key) qs) ≡ None → (b : Bool) → key_eq (key_of q) key ≡ b → place_at key (if key_eq (key_of q) key then others (λ p. key_eq (key_of p) key) qs else q ∷ others (λ p. key_eq (key_of p) key) qs) ≡ None
      by more true t = ap (λ b. place_at key (if b then others (λ p. key_eq (key_of p) key) qs else q ∷ others (λ p. key_eq (key_of p) key) qs)) t ∙ more
      by more false f =
          ap (λ b. place_at key (if b then others (λ p. key_eq (key_of p) key) qs else q ∷ others (λ p. key_eq (key_of p) key) qs)) f
          ∙ (if_false (key_eq (key_of q) key) (Some q) (place_at key (others (λ p. key_eq (key_of p) key) qs)) f ∙ more)

  -- of two kinds of things that have keys: those of another key are found as before
  module _ {A : Type 0} (of : A → Key) (k : Key) (other : key_eq key k ≡ false) where
    found_beside : (xs : List A) → find (λ x. key_eq (of x) k) (others (λ x. key_eq (of x) key) xs) ≡ find (λ x. key_eq (of x) k) xs
    found_beside [] = refl
    found_beside (x ∷ xs) = by (found_beside xs) (key_eq (of x) key) refl
      where
        by : find (λ y. key_eq (of y) k) (others (λ y. key_eq (of y) key) xs) ≡ find (λ y. key_eq (of y) k) xs → (b : Bool) → key_eq (of x) key ≡ b
            → find (λ y. key_eq (of y) k) (if key_eq (of x) key then others (λ y. key_eq (of y) key) xs else x ∷ others (λ y. key_eq (of y) key) xs) ≡ find (λ y. key_eq (of y) k) (x ∷ xs)
        by more true t =
            ap (λ b. find (λ y. key_eq (of y) k) (if b then others (λ y. key_eq (of y) key) xs else x ∷ others (λ y. key_eq (of y) key) xs)) t
            ∙ (more ∙ sym (if_false (key_eq (of x) k) (Some x) (find (λ y. key_eq (of y) k) xs) (subst (λ y. key_eq y k ≡ false) (sym (same_key (of x) key t)) other)))
        by more false f =
            ap (λ b. find (λ y. key_eq (of y) k) (if b then others (λ y. key_eq (of y) key) xs else x ∷ others (λ y. key_eq (of y) key) xs)) f
            ∙ ap (λ o. if key_eq (of x) k then Some x else o) more

  none_there : (qs : List Quarantined) → quarantined_at key (others (λ q. key_eq q.named.key key) qs) ≡ None
  none_there [] = refl
  none_there (q ∷ qs) = by (none_there qs) (key_eq q.named.key key) refl
    where
      by : quarantined_at key (others (λ x. key_eq x.named.key key) qs) ≡ None → (b : Bool) → key_eq q.named.key key ≡ b
          → quarantined_at key (if key_eq q.named.key key then others (λ x. key_eq x.named.key key) qs else q ∷ others (λ x. key_eq x.named.key key) qs) ≡ None
      by more true t = ap (λ b. quarantined_at key (if b then others (λ x. key_eq x.named.key key) qs else q ∷ others (λ x. key_eq x.named.key key) qs)) t ∙ more
      by more false f =
          ap (λ b. quarantined_at key (if b then others (λ x. key_eq x.named.key key) qs else q ∷ others (λ x. key_eq x.named.key key) qs)) f
          ∙ (if_false (key_eq q.named.key key) (Some q) (quarantined_at key (others (λ x. key_eq x.named.key key) qs)) f ∙ more)

  absent_still : (k : Key) (qs : List Quarantined) → has_key k (map (λ q. q.named.key) qs) ≡ false → has_key k (map (λ q. q.named.key) (others (λ q. key_eq q.named.key key) qs)) ≡ false
  absent_still k [] none = refl
  absent_still k (q ∷ qs) none = by (absent_still k qs (right_false (key_eq q.named.key k) (has_key k (map (λ x. x.named.key) qs)) none)) (key_eq q.named.key key)
    where
      by : has_key k (map (λ x. x.named.key) (others (λ x. key_eq x.named.key key) qs)) ≡ false → (b : Bool) → has_key k (map (λ x. x.named.key) (if b then others (λ x. key_eq x.named.key key) qs else q ∷ others (λ x. key_eq x.named.key key) qs)) ≡ false
      by more true = more
      by more false = or_from (key_eq q.named.key k) (has_key k (map (λ x. x.named.key) (others (λ x. key_eq x.named.key key) qs)))
          (left_false (key_eq q.named.key k) (has_key k (map (λ x. x.named.key) qs)) none) more

  still_apart : (qs : List Quarantined) → AreDistinct (map (λ q. q.named.key) qs) → AreDistinct (map (λ q. q.named.key) (others (λ q. key_eq q.named.key key) qs))
  still_apart [] d = tt
  still_apart (q ∷ qs) d = by (still_apart qs d.1) (key_eq q.named.key key)
    where
      by : AreDistinct (map (λ x. x.named.key) (others (λ x. key_eq x.named.key key) qs)) → (b : Bool) → AreDistinct (map (λ x. x.named.key) (if b then others (λ x. key_eq x.named.key key) qs else q ∷ others (λ x. key_eq x.named.key key) qs))
      by more true = more
      by more false = (absent_still q.named.key qs d.0, more)

-- what is known of a key stays true where the quarantine of its key and the rest stay
pub life_kept : (n m : law.LastingNode) (key : Key) (o : Option Place) (l : Option Life) → quarantined_at key m.quarantine ≡ quarantined_at key n.quarantine → m.ends ≡ n.ends → m.watches ≡ n.watches
    → LifeStands n key o l → LifeStands m key o l
life_kept n m key (Some (Lives p)) (Some (life.Watched w)) q e v st = (q ∙ st.0, subst (λ f. WatchStands w (f key)) (sym v) st.1)
life_kept n m key (Some (Lives p)) (Some (life.Resting r)) q e v st = absurd st
life_kept n m key (Some (Lives p)) None q e v st = absurd st
life_kept n m key (Some (Ended k)) (Some (life.Resting r)) q e v st =
    subst (λ o. MatchOption o ⊥ (λ x. QuarantineStands r x × (r.end.0 ≡ m.ends key))) (sym q)
    (subst (λ f. MatchOption (quarantined_at key n.quarantine) ⊥ (λ x. QuarantineStands r x × (r.end.0 ≡ f key))) (sym e) st)
life_kept n m key (Some (Ended k)) (Some (life.Watched w)) q e v st = absurd st
life_kept n m key (Some (Ended k)) None q e v st = absurd st
life_kept n m key (Some (Opens x t)) None q e v st = q ∙ st
life_kept n m key (Some (Opens x t)) (Some y) q e v st = absurd st
life_kept n m key None None q e v st = q ∙ st
life_kept n m key None (Some y) q e v st = absurd st

-- the stage without a place
forgets_stage : {S : Type 0} (service : Machine S) (node : Node) (key : Key) (opened : ℕ) (places : List Place) (code : CodeServing S) (now : Stage S) → node.stage ≡ Serving opened places
    → ServingStands service node opened places code → IsDistinct key_eq (keys_of code.slots.entries) → Forgets key (stage.Serving code) now
    → StageStands service (record node { stage = stage_without key node.stage }) now
forgets_stage service node key opened places code (stage.Serving now) at st d f = (
  opened,
  others (λ p. key_eq (key_of p) key) places,
  ap (stage_without key) at,
  record {
    number = ap (λ x. x.0) f.next ∙ st.number;
    slots = subst (λ es. AllStand service (record node { stage = stage_without key node.stage }) es (others (λ p. key_eq (key_of p) key) places)) (sym f.slots)
        (one_goes service node key code.slots.entries places st.slots d);
  },
)
forgets_stage service node key opened places code stage.Asking at st d f = absurd f
forgets_stage service node key opened places code (stage.Fetching x) at st d f = absurd f
forgets_stage service node key opened places code (stage.Marked m) at st d f = absurd f
forgets_stage service node key opened places code stage.Lost at st d f = absurd f

module _ {S : Type 0} {s : Ghosts S} (was now : LastingNode S s) (message : ForgetMessage) where
  abbrev service : Machine S
  service = service_of s was.node.who

  abbrev takes : law.LastingNode → Option Key
  takes n = taken_away (Some n.node) message n.quarantine

  -- why nothing is taken away
  pub other_boot : (n : law.LastingNode) → LastingStands service n was → (message.boot == was.node.who.boot) ≡ false → takes n ≡ None
  other_boot n st f = if_false (message.boot == n.node.boot) (named_by message.body n.quarantine) None (ap (λ x. message.boot == x.boot) st.who ∙ f)

  by_body : (n : law.LastingNode) → named_by message.body n.quarantine ≡ None → takes n ≡ None
  by_body n e = ap (λ o. if message.boot == n.node.boot then o else None) e ∙ either_none (message.boot == n.node.boot)

  pub a_forget : (n : law.LastingNode) (m : Named) → message.body ≡ ForgetMsg m → takes n ≡ None
  a_forget n m e = by_body n (ap (λ b. named_by b n.quarantine) e)

  reported_none : (n : law.LastingNode) (m : Named) → message.body ≡ ForgottenMsg m → list_any (λ q. is_same q.named m) n.quarantine ≡ false → takes n ≡ None
  reported_none n m e f = by_body n (ap (λ b. named_by b n.quarantine) e ∙ if_false (list_any (λ q. is_same q.named m) n.quarantine) (Some m.key) None f)

  pub restarts : (n : law.LastingNode) (m : Named) → LastingStands service n was → message.body ≡ ForgottenMsg m → is_serving was.node.stage ≡ false → takes n ≡ None
  restarts n m st e f =
      let empty : n.quarantine ≡ [] = none_quarantined service n (known_of was) (restarting_of service n.node was.node.stage st.stage f) st.lives in
      reported_none n m e (ap (list_any (λ q. is_same q.named m)) empty)

  its_life : (n : law.LastingNode) (st : LastingStands service n was) (e : is_serving was.node.stage ≡ true) (k : Key)
      → LifeStands n k (place_at k (serving_of service n.node was.node.stage st.stage e).places) (known_of was k)
  its_life n st e = subst (λ at. LivesStand n at (known_of was)) (serving_of service n.node was.node.stage st.stage e).is st.lives

  pub unknown : (n : law.LastingNode) (m : Named) → LastingStands service n was → message.body ≡ ForgottenMsg m → is_serving was.node.stage ≡ true → resting_in (known_of was m.key) ≡ None → takes n ≡ None
  unknown n m st e serves rests =
      reported_none n m e (none_passes m.key (has_numbers m) n.quarantine
      (none_rests n m.key (place_at m.key (serving_of service n.node was.node.stage st.stage serves).places) (known_of was m.key) (its_life n st serves m.key) rests))

  its_rest : (n : law.LastingNode) (m : Named) (r : Resting) (st : LastingStands service n was) → is_serving was.node.stage ≡ true → resting_in (known_of was m.key) ≡ Some r → IsInQuarantine n m.key r
  its_rest n m r st serves rests = rests_so n m.key (place_at m.key (serving_of service n.node was.node.stage st.stage serves).places) (known_of was m.key) r (its_life n st serves m.key) rests

  numbers_too : (q : Quarantined) (m : Named) (b : Bool) → key_eq q.named.key m.key ≡ true → b ≡ is_same q.named m → has_numbers m q ≡ b
  numbers_too q m b k e = sym (ap (λ x. x && has_numbers m q) k) ∙ sym e

  pub unnamed : (n : law.LastingNode) (m : Named) (r : Resting) → LastingStands service n was → message.body ≡ ForgottenMsg m → is_serving was.node.stage ≡ true
      → resting_in (known_of was m.key) ≡ Some r → ((q : Quarantined) → QuarantineStands r q → false ≡ is_same q.named m) → takes n ≡ None
  unnamed n m r st e serves rests other =
      let x : IsInQuarantine n m.key r = its_rest n m r st serves rests in
      let its = found_passes (λ q. key_eq q.named.key m.key) n.quarantine x.quarantined x.found in
      reported_none n m e (its_fails m.key (has_numbers m) n.quarantine x.quarantined st.apart x.found (numbers_too x.quarantined m false its (other x.quarantined x.stands)))

  pub nothing_taken : ((n : law.LastingNode) → LastingStands service n was → takes n ≡ None) → SendsOnly was now → now.own.sent.items ≡ [] → now.is_own ≡ true
      → LastingTurns (Forget_comes message) was now (sent_by now)
  nothing_taken none only empty own = λ n fair st. record {
    after = n;
    packets = nothing_sent;
    stands = same_stands service n was now only st;
    turn = (refl, sym (ap (λ o. without_place o n) (none n st)));
    wires = ap (λ (b : Bool). if b then now.own.sent.items else now.node.turn.sent.items) own ∙ empty;
    spelled = tt;
  }

  -- a place is taken away
  pub taken : (m : Named) (r : Resting) → message.body ≡ ForgottenMsg m → (message.boot == was.node.who.boot) ≡ true → is_serving was.node.stage ≡ true
      → IsDistinct key_eq (keys_of (slots_at was.node.stage)) → resting_in (known_of was m.key) ≡ Some r → ((q : Quarantined) → QuarantineStands r q → true ≡ is_same q.named m)
      → Forgets m.key was.node.stage now.node.stage → now.node.who ≡ was.node.who → ((k : Key) → known_of now k ≡ (if key_eq m.key k then None else known_of was k))
      → now.own.sent.items ≡ [] → now.is_own ≡ true → LastingTurns (Forget_comes message) was now (sent_by now)
  taken m r e boot serves d rests same forgets who known empty own = λ n fair st.
      let x : IsInQuarantine n m.key r = its_rest n m r st serves rests in
      let its = found_passes (λ q. key_eq q.named.key m.key) n.quarantine x.quarantined x.found in
      let any : list_any (λ q. is_same q.named m) n.quarantine ≡ true =
      its_passes m.key (has_numbers m) n.quarantine x.quarantined x.found (numbers_too x.quarantined m true its (same x.quarantined x.stands)) in
      let takes_it : takes n ≡ Some m.key =
      if_true (message.boot == n.node.boot) (named_by message.body n.quarantine) None (ap (λ y. message.boot == y.boot) st.who ∙ boot)
      ∙ (ap (λ b. named_by b n.quarantine) e ∙ if_true (list_any (λ q. is_same q.named m) n.quarantine) (Some m.key) None any) in
      let served : IsServing service n.node was.node.stage = serving_of service n.node was.node.stage st.stage serves in
      let after : law.LastingNode = without_place (Some m.key) n in
      let rest : List Place = others (λ p. key_eq (key_of p) m.key) served.places in
      let at : after.node.stage ≡ Serving served.opened rest = ap (stage_without m.key) served.is in
      let lives : (k : Key) → LifeStands after k (place_at k rest) (known_of now k) =
      λ k. subst (LifeStands after k (place_at k rest)) (sym (known k)) (by_cases (key_eq m.key k)
      (λ t. subst (LifeStands after k (place_at k rest)) (sym (if_true (key_eq m.key k) None (known_of was k) t))
      (subst (λ y. LifeStands after y (place_at y rest) None) (same_key m.key k t) (subst (λ o. LifeStands after m.key o None) (sym (gone_there m.key served.places)) (none_there m.key n.quarantine))))
      (λ f. subst (LifeStands after k (place_at k rest)) (sym (if_false (key_eq m.key k) None (known_of was k) f))
      (subst (λ o. LifeStands after k o (known_of was k)) (sym (found_beside m.key key_of k f served.places))
      (life_kept n after k (place_at k served.places) (known_of was k) (found_beside m.key (λ q. q.named.key) k f n.quarantine) refl refl (its_life n st serves k))))) in
      record {
        after = after;
        packets = nothing_sent;
        stands = record {
          who = ap (λ (y : Node). record y { stage = stage_without m.key n.node.stage }) st.who ∙ ap (λ w. node_of w (stage_without m.key n.node.stage)) (sym who);
          stage = forgets_stage service n.node m.key served.opened served.places served.code now.node.stage served.is served.stands
              (subst (λ y. IsDistinct key_eq (keys_of (slots_at y))) served.code_is d) (subst (λ y. Forgets m.key y now.node.stage) served.code_is forgets);
          lives = subst (λ y. LivesStand after y (known_of now)) (sym at) lives;
          apart = still_apart m.key n.quarantine st.apart;
        };
        turn = (refl, sym (ap (λ o. without_place o n) takes_it));
        wires = ap (λ (b : Bool). if b then now.own.sent.items else now.node.turn.sent.items) own ∙ empty;
        spelled = tt;
      }
