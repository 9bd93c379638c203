-- The quarantine has the connections that are done in the order of their places, and no other.
use Rattle.std.proofs.Common.{◌≡◌, ℕ, Bool, true, false, true≢false, max, MatchBool, refl, sym, ap, ap₂, ◌∙◌, subst, append-nil, flat_map, option_map, option_to_list, Option, Some, None, List, [], ◌∷◌, ◌++◌, map, slice_get, if◌then◌else◌}
use Rattle.std.proofs.lemmas.List.{map-append}
use Rattle.std.proofs.lemmas.Grind.{flat_map-append}
use Rattle.std.specs.List.{AllByRecursion}
use Rattle.ft_io.specs.declared.Key.{Key}
use Rattle.ft_io.specs.Key.{key_eq}
use Rattle.ft_io.proofs.Choices.{by_cases, holds_if, if_true, if_false}
use Rattle.server_trait.specs.Service.{Machine}
use Rattle.seq_arith.specs.Packet.{Segment}
use Rattle.ft_model.specs.Keys.{AreDistinct}
use Rattle.ft_model.specs.Lawful.{LawfulTurn}
use Rattle.ft_model.specs.Network.{Packet}
use Rattle.ft_model.specs.Node.{Node, Place, Stage, Input, key_of, place_at, booted}
use Rattle.ft_model.specs.Node.Input.{Packet_comes, Message_comes, Noise_comes, Tick_comes}
use Rattle.ft_model.specs.Node.Place.{Opens, Lives, Ended}
use Rattle.ft_model.specs.Node.Stage.{Asking, Fetching, Serving, Fenced}
use Rattle.ft_model.specs.Opening.{numbers_for, timestamping_for}
use Rattle.ft_model.specs.ServingTurn.{PlaceTurn, AllGo, newcomers}
use Rattle.ft_model.specs.World.{World}
use Rattle.ft_model.specs.declared.event.Event.{Event}
use Rattle.ft_model.proofs.Distinct.{StageDistinct}
use Rattle.ft_model.proofs.Keys.{finds_itself, all_from_get}
use Rattle.ft_model.proofs.Lists.{all_weaker, none_is_some, some_is, same_key, found_passes}
use Rattle.ft_model.proofs.PlaceTurns.{PlaceWent, place_went}
use Rattle.ft_model.proofs.PlaceTurns.PlaceWent.{stayed, went_on, began, dropped, ended, refused}
use Rattle.ft_model.proofs.Running.{HasSmallOutputs}
use Rattle.long_laws.specs.Forgetting.{Named, ForgetAnswer, answer_to_forget}
use Rattle.long_laws.specs.Forgetting.ForgetAnswer.{About_forgetting, Of_log}
use Rattle.long_laws.specs.LongTrace.{LongStep, others, places_at, stage_without}
use Rattle.long_laws.specs.LongTrace.LongStep.{Joint_event, Recycles, Forgets, Arrives, Lets_go, Keeps_alive}
use Rattle.long_laws.specs.Quarantine.{Quarantined, named_in, quarantined_at, proceeds_or_begins, quarantine_of, quarantine_after, early, taken_away}
use Rattle.long_laws.specs.QuarantineWorld.{QuarantineWorld, QuarantineStep, QuarantineMoment, MayQuarantine, QuarantineJoint, Usually, DropsSilently, event_input, step_input, quarantine_then, drops, is_full_input, is_by_message, recycled_by, recycled_world, with_answer, without_place, after_moments, IsHeld}
use Rattle.long_laws.specs.QuarantineWorld.QuarantineStep.{Usual, To_log, To_node, Is_lost, Ends_early}
use Rattle.long_laws.proofs.Forgotten.{Was, was}
use Rattle.long_laws.proofs.Others.{find_others}
use Rattle.long_laws.proofs.QuarantineEvents.{Went, went}
use Rattle.long_laws.proofs.QuarantineEvents.Went.{took_turn, was_elsewhere, has_booted, is_down}
use Rattle.long_laws.proofs.QuarantineTraces.{follows}
use Rattle.lasting_laws.specs.ByKey.{next_quarantine, quarantine_at}
use Rattle.lasting_laws.proofs.ByKey.{quarantine_by_key, serves_on}

-- what the quarantine has of a place
abbrev pub picked : List Quarantined → Place → List Quarantined
picked qs (Ended key) = option_to_list (quarantined_at key qs)
picked qs (Lives p) = []
picked qs (Opens numbers timestamping) = []

abbrev pub IsInOrder : Option Node → List Quarantined → Type 0
IsInOrder o qs = (node : Node) → o ≡ Some node → flat_map (picked qs) (places_at node.stage) ≡ qs

abbrev AreApart : Option Node → Type 0
AreApart o = (node : Node) → o ≡ Some node → AreDistinct (map key_of (places_at node.stage))

same_lists : {A B : Type 0} (f g : A → List B) (xs : List A) → AllByRecursion (λ x. f x ≡ g x) xs → flat_map f xs ≡ flat_map g xs
same_lists f g [] a = refl
same_lists f g (x ∷ xs) a = ap₂ (λ l m. l ++ m) a.0 (same_lists f g xs a.1)

-- after a turn
one_list : (input : Input) (q : Option Quarantined) (n : Option Named) → option_to_list (next_quarantine input q n) ≡ proceeds_or_begins input q n
one_list input (Some q) n = refl
one_list input None (Some n) = refl
one_list input None None = refl

turn_in_order : (node : Node) (input : Input) (later : Stage) (qs : List Quarantined) → AreDistinct (map key_of (places_at later))
    → flat_map (picked (quarantine_after node input later qs)) (places_at later) ≡ quarantine_after node input later qs
turn_in_order node input later qs d =
    same_lists (picked (quarantine_after node input later qs)) (quarantine_of node input qs) (places_at later)
    (all_from_get (λ place. picked (quarantine_after node input later qs) place ≡ quarantine_of node input qs place) (places_at later) same)
  where
    same : (i : ℕ) (place : Place) → slice_get (places_at later) i ≡ Some place → picked (quarantine_after node input later qs) place ≡ quarantine_of node input qs place
    same i (Ended key) e =
        ap (λ o. option_to_list o)
        (quarantine_by_key node input qs later key d
        ∙ ap (λ o. quarantine_at node input key (quarantined_at key qs) o) (finds_itself key_of (places_at later) i (Ended key) d e))
        ∙ one_list input (quarantined_at key qs) (named_in node input node.stage key)
    same i (Lives p) e = refl
    same i (Opens numbers timestamping) e = refl

-- noise changes it not
pub noise_in_order : (node : Node) (qs : List Quarantined) → flat_map (picked qs) (places_at node.stage) ≡ qs → AllByRecursion (IsHeld qs) (places_at node.stage)
    → quarantine_after node Noise_comes node.stage qs ≡ qs
noise_in_order node qs order held =
    same_lists (quarantine_of node Noise_comes qs) (picked qs) (places_at node.stage)
    (all_weaker (IsHeld qs) (λ place. quarantine_of node Noise_comes qs place ≡ picked qs place) (places_at node.stage) same held) ∙ order
  where
    same : (place : Place) → IsHeld qs place → quarantine_of node Noise_comes qs place ≡ picked qs place
    same (Ended key) h =
        ap (λ o. proceeds_or_begins Noise_comes o (named_in node Noise_comes node.stage key)) h.1 ∙ sym (ap (λ o. option_to_list o) h.1)
    same (Lives p) h = refl
    same (Opens numbers timestamping) h = refl

-- A server that lets go of a client has the same places that are done
is_packet : Input → Bool
is_packet (Packet_comes segment) = true
is_packet (Message_comes message) = false
is_packet Noise_comes = false
is_packet Tick_comes = false

module _ {State : Type 0} (service : Machine State) (node : Node) (segment : Segment) (qs : List Quarantined) where
  one_picks : (place : Place) (now : List Place) (sent : List Packet) → PlaceWent service node (Packet_comes segment) place now sent → flat_map (picked qs) now ≡ picked qs place
  unfolding is_packet
  one_picks place now sent (stayed n s) = ap (flat_map (picked qs)) n ∙ append-nil (picked qs place)
  one_picks place now sent (went_on news p q e i n t) = ap (flat_map (picked qs)) n ∙ sym (ap (picked qs) e)
  one_picks place now sent (began asked kept timestamping q e h n t) = ap (flat_map (picked qs)) n ∙ sym (ap (picked qs) e)
  one_picks place now sent (dropped asked timestamping e d n s) = ap (flat_map (picked qs)) n ∙ sym (ap (picked qs) e)
  one_picks place now sent (ended p e h n s) = absurd (true≢false (ap is_packet h.1))
  one_picks place now sent (refused key other e c k n s) = ap (flat_map (picked qs)) n ∙ (append-nil (picked qs (Ended key)) ∙ sym (ap (picked qs) e))

  all_pick : (places went : List Place) (sent : List Packet) → AllGo (PlaceTurn service node (Packet_comes segment)) places went sent
      → flat_map (picked qs) went ≡ flat_map (picked qs) places
  all_pick [] went sent g = ap (flat_map (picked qs)) g.0
  all_pick (place ∷ places) went sent (now, later, first, rest, is, all, goes, others_go) =
      ap (flat_map (picked qs)) is
      ∙ (flat_map-append (picked qs) now later
      ∙ ap₂ (λ l m. l ++ m) (one_picks place now first (place_went service node (Packet_comes segment) place now first goes)) (all_pick places later rest others_go))

  new_pick : (opened : ℕ) (places : List Place) → flat_map (picked qs) (newcomers node (Packet_comes segment) opened places) ≡ []
  new_pick opened places =
      holds_if (λ l. flat_map (picked qs) l ≡ []) _ (Opens (numbers_for node.profile node.isn opened segment) (timestamping_for node.profile segment) ∷ []) [] (λ t. refl) (λ t. refl)

  packet_in_order : (later : Node) (sent : List Packet) (opened : ℕ) (places : List Place) → node.stage ≡ Serving opened places → LawfulTurn service node (Packet_comes segment) sent later
      → flat_map (picked qs) (places_at node.stage) ≡ qs → flat_map (picked qs) (places_at later.stage) ≡ qs
  packet_in_order later sent opened places at turn order =
      let s = serves_on service node later (Packet_comes segment) opened places sent at refl turn in
      let t = s.2 in
      ap (λ stage. flat_map (picked qs) (places_at stage)) s.1
      ∙ (ap (flat_map (picked qs)) t.places
      ∙ (flat_map-append (picked qs) t.went (newcomers node (Packet_comes segment) opened places)
      ∙ (ap₂ (λ l m. l ++ m) (all_pick places t.went t.by_places t.all_go) (new_pick opened places)
      ∙ (append-nil (flat_map (picked qs) places) ∙ (sym (ap (λ stage. flat_map (picked qs) (places_at stage)) at) ∙ order)))))

serves : (stage : Stage) (key : Key) (place : Place) → place_at key (places_at stage) ≡ Some place → (opened : ℕ) × (places : List Place) × (stage ≡ Serving opened places)
serves (Serving opened places) key place e = (opened, places, refl)
serves Asking key place e = none_is_some place e
serves (Fetching count fetched) key place e = none_is_some place e
serves (Fenced newer) key place e = none_is_some place e

-- Forgotten takes a place away
abbrev is_of : Key → Quarantined → Bool
is_of key q = key_eq q.named.key key

others_more : {A : Type 0} (passes : A → Bool) (xs ys : List A) → others passes (xs ++ ys) ≡ others passes xs ++ others passes ys
others_more passes [] ys = refl
others_more passes (x ∷ xs) ys =
    holds_if (λ (l : List _). (if passes x then others passes (xs ++ ys) else x ∷ others passes (xs ++ ys)) ≡ l ++ others passes ys) (passes x) (others passes xs) (x ∷ others passes xs)
    (λ t. ap (λ b. if b then others passes (xs ++ ys) else x ∷ others passes (xs ++ ys)) t ∙ others_more passes xs ys)
    (λ t. ap (λ b. if b then others passes (xs ++ ys) else x ∷ others passes (xs ++ ys)) t ∙ ap (λ l. x ∷ l) (others_more passes xs ys))

module _ (key : Key) (qs : List Quarantined) where
  found_stays : (k : Key) (o : Option Quarantined) → quarantined_at k qs ≡ o → key_eq k key ≡ false → others (is_of key) (option_to_list o) ≡ option_to_list o
  found_stays k None e apart = refl
  found_stays k (Some q) e apart =
      if_false (is_of key q) [] (q ∷ []) (ap (λ x. key_eq x key) (same_key q.named.key k (found_passes (λ x. key_eq x.named.key k) qs q e)) ∙ apart)

  found_goes : (k : Key) (o : Option Quarantined) → quarantined_at k qs ≡ o → key_eq k key ≡ true → others (is_of key) (option_to_list o) ≡ []
  found_goes k None e same = refl
  found_goes k (Some q) e same =
      if_true (is_of key q) [] (q ∷ []) (ap (λ x. key_eq x key) (same_key q.named.key k (found_passes (λ x. key_eq x.named.key k) qs q e)) ∙ same)

  place_goes : (place : Place) → key_eq (key_of place) key ≡ true → others (is_of key) (picked qs place) ≡ []
  place_goes (Ended k) same = found_goes k (quarantined_at k qs) refl same
  place_goes (Lives p) same = refl
  place_goes (Opens numbers timestamping) same = refl

  place_stays : (place : Place) → key_eq (key_of place) key ≡ false → picked (others (is_of key) qs) place ≡ others (is_of key) (picked qs place)
  place_stays (Ended k) apart =
      ap (λ o. option_to_list o) (find_others (λ q. q.named.key) key k qs apart) ∙ sym (found_stays k (quarantined_at k qs) refl apart)
  place_stays (Lives p) apart = refl
  place_stays (Opens numbers timestamping) apart = refl

  left_in_order : (places : List Place)
      → flat_map (picked (others (is_of key) qs)) (others (λ p. key_eq (key_of p) key) places) ≡ others (is_of key) (flat_map (picked qs) places)
  left_in_order [] = refl
  left_in_order (place ∷ places) =
      holds_if (λ l. flat_map (picked (others (is_of key) qs)) l ≡ others (is_of key) (picked qs place ++ flat_map (picked qs) places)) (key_eq (key_of place) key)
      (others (λ p. key_eq (key_of p) key) places) (place ∷ others (λ p. key_eq (key_of p) key) places)
      (λ t. left_in_order places
      ∙ sym (others_more (is_of key) (picked qs place) (flat_map (picked qs) places) ∙ ap (λ l. l ++ others (is_of key) (flat_map (picked qs) places)) (place_goes place t)))
      (λ t. ap₂ (λ l m. l ++ m) (place_stays place t) (left_in_order places) ∙ sym (others_more (is_of key) (picked qs place) (flat_map (picked qs) places)))

  stage_left : (stage : Stage) → flat_map (picked qs) (places_at stage) ≡ qs
      → flat_map (picked (others (is_of key) qs)) (places_at (stage_without key stage)) ≡ others (is_of key) qs
  stage_left (Serving opened places) order = left_in_order places ∙ ap (others (is_of key)) order
  stage_left Asking order = ap (others (is_of key)) order
  stage_left (Fetching count fetched) order = ap (others (is_of key)) order
  stage_left (Fenced newer) order = ap (others (is_of key)) order

placed_in_order : (r : Option Key) (w : QuarantineWorld) → IsInOrder w.now.node w.quarantine → IsInOrder (without_place r w).now.node (without_place r w).quarantine
placed_in_order None w h = h
placed_in_order (Some key) w h = λ node e.
    let b : Was key w.now.node node = was key w.now.node node e in
    subst (λ n. flat_map (picked (others (is_of key) w.quarantine)) (places_at n.stage) ≡ others (is_of key) w.quarantine) (sym b.is) (stage_left key w.quarantine b.node.stage (h b.node b.up))

-- A quarantine ends early
module _ (wait : ℕ) (key : Key) where
  early_key : (q : Quarantined) → (early wait key q).named.key ≡ q.named.key
  early_key q = holds_if (λ x. x.named.key ≡ q.named.key) (key_eq q.named.key key) (record q { age = max wait q.age }) q (λ t. refl) (λ t. refl)

  early_found : (k : Key) (qs : List Quarantined) → quarantined_at k (map (early wait key) qs) ≡ option_map (early wait key) (quarantined_at k qs)
  early_found k [] = refl
  early_found k (q ∷ qs) =
      by_cases (key_eq q.named.key k)
      (λ t. if_true (key_eq (early wait key q).named.key k) (Some (early wait key q)) (quarantined_at k (map (early wait key) qs)) (ap (λ x. key_eq x k) (early_key q) ∙ t)
      ∙ sym (ap (option_map (early wait key)) (if_true (key_eq q.named.key k) (Some q) (quarantined_at k qs) t)))
      (λ f. if_false (key_eq (early wait key q).named.key k) (Some (early wait key q)) (quarantined_at k (map (early wait key) qs)) (ap (λ x. key_eq x k) (early_key q) ∙ f)
      ∙ (early_found k qs ∙ sym (ap (option_map (early wait key)) (if_false (key_eq q.named.key k) (Some q) (quarantined_at k qs) f))))

  listed : (o : Option Quarantined) → option_to_list (option_map (early wait key) o) ≡ map (early wait key) (option_to_list o)
  listed (Some q) = refl
  listed None = refl

  early_picked : (qs : List Quarantined) (place : Place) → picked (map (early wait key) qs) place ≡ map (early wait key) (picked qs place)
  early_picked qs (Ended k) = ap (λ o. option_to_list o) (early_found k qs) ∙ listed (quarantined_at k qs)
  early_picked qs (Lives p) = refl
  early_picked qs (Opens numbers timestamping) = refl

  early_in_order : (qs : List Quarantined) (places : List Place) → flat_map (picked (map (early wait key) qs)) places ≡ map (early wait key) (flat_map (picked qs) places)
  early_in_order qs [] = refl
  early_in_order qs (place ∷ places) =
      ap₂ (λ l m. l ++ m) (early_picked qs place) (early_in_order qs places) ∙ sym (map-append (early wait key) (picked qs place) (flat_map (picked qs) places))

-- A step
module _ {State : Type 0} (service : Machine State) (before : QuarantineWorld) (h : IsInOrder before.now.node before.quarantine) where
  still_in_order : (there : Option Node) (qs : List Quarantined) (up : Option Node) → before.now.node ≡ up → there ≡ before.now.node
      → qs ≡ quarantine_then before.now.node None there before.quarantine → IsInOrder there qs
  still_in_order there qs None up same is node e = none_is_some node (sym up ∙ (sym same ∙ e))
  still_in_order there qs (Some old) up same is node e =
      let kept : qs ≡ before.quarantine =
      is ∙ (ap (λ n. quarantine_then n None there before.quarantine) up ∙ ap (λ n. quarantine_then (Some old) None n before.quarantine) (same ∙ up)) in
      subst (λ l. flat_map (picked l) (places_at node.stage) ≡ l) (sym kept) (h node (sym same ∙ e))

  event_in_order : (event : Event) (sent : List Packet) (there : World) (qs : List Quarantined) → AreApart there.node
      → qs ≡ quarantine_then before.now.node (event_input before.now event) there.node before.quarantine → Went service before.now event sent there → IsInOrder there.node qs
  event_in_order event sent there qs apart is (took_turn input node later i brought up turn then_) x e =
      let now : there.node ≡ Some later = ap (λ w. w.node) then_ in
      let kept : qs ≡ quarantine_after node input later.stage before.quarantine =
      is ∙ (ap (λ n. quarantine_then n (event_input before.now event) there.node before.quarantine) up
      ∙ (ap (λ y. quarantine_then (Some node) y there.node before.quarantine) i ∙ ap (λ n. quarantine_then (Some node) (Some input) n before.quarantine) now)) in
      subst (λ n. flat_map (picked qs) (places_at n.stage) ≡ qs) (some_is later x (sym now ∙ e))
      (subst (λ l. flat_map (picked l) (places_at later.stage) ≡ l) (sym kept) (turn_in_order node input later.stage before.quarantine (apart later now)))
  event_in_order event sent there qs apart is (was_elsewhere i elsewhere) x e =
      still_in_order there.node qs before.now.node refl elsewhere.node (is ∙ ap (λ y. quarantine_then before.now.node y there.node before.quarantine) i) x e
  event_in_order event sent there qs apart is (has_booted boot isn i down larger s then_) x e =
      let now = ap (λ w. w.node) then_ in
      let none : qs ≡ [] =
      is ∙ ap (λ n. quarantine_then n (event_input before.now event) there.node before.quarantine) down in
      subst (λ n. flat_map (picked qs) (places_at n.stage) ≡ qs) (some_is (booted before.now.server before.now.profile boot isn) x (sym now ∙ e)) (sym none)
  event_in_order event sent there qs apart is (is_down why s then_) x e = none_is_some x (sym (ap (λ w. w.node) then_) ∙ e)

  usual_in_order : (wait : ℕ) (step : LongStep) (sent : List Packet) (after : QuarantineWorld) → AreApart after.now.node → is_by_message step ≡ false → Usually service wait before step sent after
      → IsInOrder after.now.node after.quarantine
  usual_in_order wait (Joint_event event) sent after apart b u = event_in_order event sent after.now after.quarantine apart u.quarantine (went service before.now event sent after.now u.passes.0)
  usual_in_order wait (Recycles key) sent after apart b u = absurd (true≢false b)
  usual_in_order wait (Forgets key) sent after apart b u = absurd (true≢false b)
  usual_in_order wait (Arrives c) sent after apart b u = still_in_order after.now.node after.quarantine before.now.node refl (ap (λ w. w.node) u.passes.2) u.quarantine
  usual_in_order wait (Keeps_alive key) sent after apart b u = still_in_order after.now.node after.quarantine before.now.node refl (ap (λ w. w.node) u.passes.0.after_is) u.quarantine
  usual_in_order wait (Lets_go key) sent after apart b u = λ x e.
      let l = u.passes.0 in
      let now : after.now.node ≡ Some l.later = ap (λ w. w.node) l.after_is in
      let kept : after.quarantine ≡ before.quarantine =
      u.quarantine ∙ (ap (λ n. quarantine_then n None after.now.node before.quarantine) l.up ∙ ap (λ n. quarantine_then (Some l.node) None n before.quarantine) now) in
      let at = serves l.node.stage key (Lives l.point) l.lives in
      subst (λ n. flat_map (picked after.quarantine) (places_at n.stage) ≡ after.quarantine) (some_is l.later x (sym now ∙ e))
      (subst (λ q. flat_map (picked q) (places_at l.later.stage) ≡ q) (sym kept) (packet_in_order service l.node _ before.quarantine l.later sent at.0 at.1 at.2 l.turn (h l.node l.up)))

  silent_in_order : (step : LongStep) (sent : List Packet) (after : QuarantineWorld) → AreApart after.now.node → is_full_input (step_input before.now step) ≡ true
      → DropsSilently service before step sent after → IsInOrder after.now.node after.quarantine
  silent_in_order (Joint_event event) sent after apart f d = λ x e.
      let same : after.now.node ≡ d.there.node = ap (λ w. w.node) d.now_is in
      event_in_order event d.all d.there after.quarantine (λ n y. apart n (same ∙ y)) d.quarantine (went service before.now event d.all d.there d.passes.0) x (sym same ∙ e)
  silent_in_order (Recycles key) sent after apart f d = absurd (true≢false (sym f))
  silent_in_order (Forgets key) sent after apart f d = absurd (true≢false (sym f))
  silent_in_order (Arrives c) sent after apart f d = absurd (true≢false (sym f))
  silent_in_order (Lets_go key) sent after apart f d = absurd (true≢false (sym f))
  silent_in_order (Keeps_alive key) sent after apart f d = absurd (true≢false (sym f))

  event_step : (wait : ℕ) (step : LongStep) (sent : List Packet) (after : QuarantineWorld) (dropped full : Bool) → AreApart after.now.node → is_by_message step ≡ false
      → is_full_input (step_input before.now step) ≡ full
      → MatchBool dropped ((sent ≡ []) × (after ≡ before)) (MatchBool full (DropsSilently service before step sent after) (Usually service wait before step sent after))
      → IsInOrder after.now.node after.quarantine
  event_step wait step sent after true full apart b f d = subst (λ w. IsInOrder w.now.node w.quarantine) (sym d.1) h
  event_step wait step sent after false true apart b f d = silent_in_order step sent after apart f d
  event_step wait step sent after false false apart b f u = usual_in_order wait step sent after apart b u

out_in_order : (r : Option Key) (w : QuarantineWorld) → IsInOrder w.now.node w.quarantine → IsInOrder (recycled_world r w).now.node (recycled_world r w).quarantine
out_in_order (Some key) w h = h
out_in_order None w h = h

answered_in_order : (a : Option ForgetAnswer) (w : QuarantineWorld) → IsInOrder w.now.node w.quarantine → IsInOrder (with_answer a w).now.node (with_answer a w).quarantine
answered_in_order (Some (About_forgetting m)) w h = h
answered_in_order (Some (Of_log m)) w h = h
answered_in_order None w h = h

apart_at : (stage : Stage) → StageDistinct stage → AreDistinct (map key_of (places_at stage))
apart_at (Serving opened places) d = d
apart_at Asking d = tt
apart_at (Fetching count fetched) d = tt
apart_at (Fenced newer) d = tt

module _ {State : Type 0} (service : Machine State) (small : HasSmallOutputs service) (wait : ℕ) where
  step_in_order : (before after : QuarantineWorld) (step : QuarantineStep) (sent : List Packet) → AreApart after.now.node → IsInOrder before.now.node before.quarantine
      → MayQuarantine service wait before step sent after → IsInOrder after.now.node after.quarantine
  step_in_order before after (Usual step) sent apart h (b, d) =
      event_step service before h wait step sent after (drops wait before.now.node (step_input before.now step) before.quarantine) (is_full_input (step_input before.now step)) apart b refl d
  step_in_order before after (To_log number) sent apart h (message, there, s, is) =
      subst (λ w. IsInOrder w.now.node w.quarantine) (sym is)
      (answered_in_order (answer_to_forget before.now.log message) (recycled_world (recycled_by message before.now.log) before) (out_in_order (recycled_by message before.now.log) before h))
  step_in_order before after (To_node number) sent apart h (message, there, s, is) =
      subst (λ w. IsInOrder w.now.node w.quarantine) (sym is) (placed_in_order (taken_away before.now.node message before.quarantine) before h)
  step_in_order before after (Is_lost number) sent apart h (s, is) = subst (λ w. IsInOrder w.now.node w.quarantine) (sym is) h
  step_in_order before after (Ends_early key) sent apart h (s, e) =
      subst (λ w. IsInOrder w.now.node w.quarantine) (sym e.after_is)
      (λ node up. early_in_order wait key before.quarantine (places_at node.stage) ∙ ap (map (early wait key)) (h node up))

  pub all_in_order : (start : World) (trace : List QuarantineMoment) → QuarantineJoint service wait start trace
      → IsInOrder (after_moments start trace).now.node (after_moments start trace).quarantine
  all_in_order start [] j = λ node e. none_is_some node (sym j.node ∙ e)
  all_in_order start (moment ∷ earlier) j =
      let stands = (follows service small wait start (moment ∷ earlier) j).stands in
      step_in_order (after_moments start earlier) moment.world moment.step moment.sent (λ node e. apart_at node.stage (stands.distinct node e)) (all_in_order start earlier j.0) j.1
