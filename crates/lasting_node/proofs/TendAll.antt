-- All places are tended, one after another.
use Rattle.std.proofs.Common.{◌≡◌, ◌∙◌, ℕ, zero, suc, ◌≤◌, ◌<◌, true, refl, sym, ap, subst, arith, map, option_map, slice_get, take, length, Some, None, List, [], ◌∷◌}
use Rattle.std.specs.List.{IsDistinct}
use Rattle.std.specs.Map.{keys_of}
use Rattle.std.proofs.lemmas.List.{take_all}
use Rattle.ft_io.specs.declared.Key.{Key}
use Rattle.ft_io.specs.Key.{key_eq}
use Rattle.server_trait.specs.Service.{Machine}
use Rattle.server_trait.specs.declared.Service.{Ghosts}
use Rattle.ft_model.specs.Keys.{AreDistinct}
use Rattle.ft_model.specs.Node.{Place, key_of, place_at}
use Rattle.ft_model.proofs.Lists.{none_is_some, some_is}
use Rattle.long_laws.specs.LongTrace.{places_at}
use Rattle.lasting_laws.specs.LastingTurn as law
use Rattle.lasting_laws.specs.LastingTurn.{TendsAll}
use Rattle.lasting_laws.proofs.Ticks.{Tending}
use Rattle.node_serving.specs.Identity.{service_of}
use Rattle.server_node.specs.Places.{slots_at, is_serving}
use Rattle.lasting_node.specs.declared.node.LastingNode.{LastingNode}
use Rattle.lasting_node.specs.Tending.{with_node, TendsOne, TendsEach}
use Rattle.lasting_node.specs.Turns.{LastingStands}
use Rattle.lasting_node.proofs.Due.{within_some, nth_key, key_count}
use Rattle.lasting_node.proofs.Going.{IsServing, serving_of, places_differ}
use Rattle.lasting_node.proofs.Tended.{TendsTo, none_yet, next_there, one_more, slot_keys}
use Rattle.lasting_node.proofs.Ticked.{all_tending}

-- what a mapped list has, the list has
mapped : {A B : Type 0} (f : A → B) (xs : List A) (i : ℕ) (y : B) → slice_get (map f xs) i ≡ Some y → (x : A) × (slice_get xs i ≡ Some x) × (f x ≡ y)
mapped f [] i y e = none_is_some y e
mapped f (x ∷ xs) zero y e = (x, refl, some_is (f x) y e)
mapped f (x ∷ xs) (suc i) y e = mapped f xs i y e

mapped_count : {A B : Type 0} (f : A → B) (xs : List A) → length (map f xs) ≡ length xs
mapped_count f [] = refl
mapped_count f (x ∷ xs) = ap suc (mapped_count f xs)

module _ {S : Type 0} {s : Ghosts S} (n : law.LastingNode) (was : LastingNode S s) where
  abbrev service : Machine S
  service = service_of s was.node.who

  abbrev places : List Place
  places = places_at n.node.stage

  pub begins_tending : is_serving was.node.stage ≡ true → IsDistinct key_eq (keys_of (slots_at was.node.stage)) → LastingStands service n was → TendsTo n places 0 was was
  begins_tending serves d st =
      let x : IsServing service n.node was.node.stage = serving_of service n.node was.node.stage st.stage serves in
      let apart : AreDistinct (map key_of places) = places_differ service n.node was.node.stage st.stage d in
      let t : Tending n.node places =
      subst (λ l. Tending n.node l) (sym (ap places_at x.is)) (all_tending n.node x.opened x.places x.is (subst (λ y. AreDistinct (map key_of (places_at y))) x.is apart)) in
      none_yet n places was t refl st

  module _ (mid : LastingNode S s) (i : ℕ) (t : TendsTo n places i was mid) where
    -- the keys are the same still
    keys_there : keys_of (slots_at mid.node.stage) ≡ map key_of places
    keys_there = sym (slot_keys service t.mid mid.node.stage t.tended.stands.stage) ∙ t.keys

    pub tends_next : (next : LastingNode S s) (key : Key) → mid.node.who ≡ was.node.who → mid.patience ≡ was.patience → Some key ≡ option_map (λ e. e.0) (slice_get (slots_at mid.node.stage) i)
        → ((m : law.LastingNode) (place : Place) → LastingStands (service_of s mid.node.who) m mid → place_at key (places_at m.node.stage) ≡ Some place → TendsOne m place mid next)
        → TendsTo n places (suc i) was next
    tends_next next key who patience found tends =
        let at : slice_get (map key_of places) i ≡ Some key = sym (ap (λ ks. slice_get ks i) keys_there) ∙ (nth_key (slots_at mid.node.stage) i ∙ sym found) in
        let x = mapped key_of places i key at in
        let there : place_at key (places_at t.mid.stage) ≡ Some x.0 = subst (λ k. place_at k (places_at t.mid.stage) ≡ Some x.0) x.2 (next_there n places was i mid x.0 t x.1) in
        one_more n places was i x.0 mid next x.1 who patience t (tends (with_node t.mid n) x.0 (subst (λ w. LastingStands (service_of s w) (with_node t.mid n) mid) (sym who) t.tended.stands) there)

    slots_was : LastingStands service n was → keys_of (slots_at was.node.stage) ≡ map key_of places
    slots_was st = sym (slot_keys service n.node was.node.stage st.stage)

    pub no_key_left : {P : Type 0} → LastingStands service n was → i < length (slots_at was.node.stage) → option_map (λ e. e.0) (slice_get (slots_at mid.node.stage) i) ≡ None → P
    no_key_left st less none =
        let count : length (map key_of places) ≡ length (slots_at was.node.stage) = sym (ap length (slots_was st)) ∙ key_count (slots_at was.node.stage) in
        within_some (map key_of places) i (omega (arith, count, less)) (sym (ap (λ ks. slice_get ks i) keys_there) ∙ (nth_key (slots_at mid.node.stage) i ∙ none))

    pub tends_end : LastingStands service n was → length (slots_at was.node.stage) ≤ i → TendsEach n was mid
    tends_end st past =
        let count : length places ≡ length (slots_at was.node.stage) = sym (mapped_count key_of places) ∙ (sym (ap length (slots_was st)) ∙ key_count (slots_at was.node.stage)) in
        let all : take i places ≡ places = take_all i places (omega (arith, count, past)) in
        record {
          last = t.mid;
          packets = t.packets;
          tends = subst (λ l. TendsAll service was.patience.silence n.watches n.node l t.packets t.mid) all t.tends;
          tended = t.tended;
        }
