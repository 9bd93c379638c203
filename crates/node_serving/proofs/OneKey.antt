-- An input that concerns one key alone: its slot has a turn, and all others stay.
use Rattle.std.proofs.Common.{◌≡◌, ◌∙◌, Bool, true, false, refl, sym, ap, subst, List, [], ◌∷◌, append-nil, Some, None, cond, true≢false}
use Rattle.std.specs.List.{AllByRecursion, IsDistinct}
use Rattle.std.specs.Bool.{MatchBool}
use Rattle.std.specs.Map.{lookup, set_value, remove_entry, keys_of}
use Rattle.ft_io.specs.declared.Key.{Key}
use Rattle.ft_io.specs.Key.{key_eq}
use Rattle.server_trait.specs.Service.{Machine}
use Rattle.ft_model.specs.Network.{Packet}
use Rattle.ft_model.specs.Node.{Node, Place, Input, key_of}
use Rattle.ft_model.specs.Node.Place.{Opens, Lives, Ended}
use Rattle.ft_model.specs.ServingTurn.{PlaceTurn, AllGo, Stays, Meets, concerns}
use Rattle.ft_model.specs.Wire.{Wire}
use Rattle.node_serving.specs.declared.slot.Slot.{Slot}
use Rattle.node_serving.specs.declared.slot.Slot.TheVariants as slot
use Rattle.node_serving.specs.Slots.{SlotStands, AllStand, SlotGoes, SlotLeaves, AllSlotsGo}
use Rattle.ft_io.proofs.Choices.{same_some}
use Rattle.ft_model.proofs.Lists.{same_key}

pub place_key : {S : Type 0} (service : Machine S) (node : Node) (key : Key) (s : Slot S) (place : Place) → SlotStands service node key s place → key_of place ≡ key
place_key service node key (slot.Pending o) (Opens n timestamping) st = ap (λ x. x.key) st.0
place_key service node key (slot.Pending o) (Lives p) st = absurd st
place_key service node key (slot.Pending o) (Ended k) st = absurd st
place_key service node key (slot.Live c) (Opens n timestamping) st = absurd st
place_key service node key (slot.Live c) (Lives p) st = st.0
place_key service node key (slot.Live c) (Ended k) st = absurd st
place_key service node key slot.Done (Opens n timestamping) st = absurd st
place_key service node key slot.Done (Lives p) st = absurd st
place_key service node key slot.Done (Ended k) st = st

-- a place that isn't concerned stays
pub place_stays : {S : Type 0} (service : Machine S) (node : Node) (input : Input) (place : Place) → concerns node input (key_of place) ≡ false
    → PlaceTurn service node input place (place ∷ []) []
place_stays service node input place other =
    subst (λ b. MatchBool b (Meets service node input place (place ∷ []) []) (Stays place (place ∷ []) [])) (sym other) (refl, refl)

-- one that is, meets the input
pub place_meets : {S : Type 0} (service : Machine S) (node : Node) (input : Input) (place : Place) (now : List Place) (sent : List Packet)
    → concerns node input (key_of place) ≡ true → Meets service node input place now sent → PlaceTurn service node input place now sent
place_meets service node input place now sent concerned meets =
    subst (λ b. MatchBool b (Meets service node input place now sent) (Stays place now sent)) (sym concerned) meets

-- an input that concerns none changes nothing
pub none_concerned : {S : Type 0} (service : Machine S) (node : Node) (input : Input) (es : List (Key × Slot S)) (places : List Place) (reported : List Wire)
    → ((k : Key) → concerns node input k ≡ false) → AllStand service node es places → AllSlotsGo service node input places es reported reported
none_concerned service node input es places reported other st =
    record { after = places; packets = []; stands = st; go = all_rest places; wires = sym (append-nil reported); spelled = tt }
  where
    all_rest : (qs : List Place) → AllGo (PlaceTurn service node input) qs qs []
    all_rest [] = (refl, refl)
    all_rest (q ∷ qs) = (q ∷ [], qs, [], [], refl, refl, place_stays service node input q (other (key_of q)), all_rest qs)

module _ {S : Type 0} (service : Machine S) (node : Node) (input : Input) (key : Key) (only : (k : Key) → key_eq key k ≡ false → concerns node input k ≡ false) where
  -- all places of other keys stay
  pub all_stay : (es : List (Key × Slot S)) (places : List Place) → AllStand service node es places → AllByRecursion (λ k. key_eq key k ≡ false) (keys_of es)
      → AllGo (PlaceTurn service node input) places places []
  all_stay [] [] st none = (refl, refl)
  all_stay [] (q ∷ qs) st none = absurd st
  all_stay (e ∷ es) [] st none = absurd st
  all_stay (e ∷ es) (q ∷ qs) st none =
      (q ∷ [], qs, [], [], refl, refl, place_stays service node input q (only (key_of q) (ap (key_eq key) (place_key service node e.0 e.1 q st.0) ∙ none.0)), all_stay es qs st.1 none.1)

  pub none_goes : (es : List (Key × Slot S)) (places : List Place) (reported : List Wire) → AllStand service node es places
      → AllByRecursion (λ k. key_eq key k ≡ false) (keys_of es) → AllSlotsGo service node input places es reported reported
  none_goes es places reported st none = record { after = places; packets = []; stands = st; go = all_stay es places st none; wires = sym (append-nil reported); spelled = tt }

  -- the key's slot goes on
  pub one_goes : (P : Place → Type 0) (es : List (Key × Slot S)) (places : List Place) (was now : Slot S) (old new : List Wire) → AllStand service node es places
      → IsDistinct key_eq (keys_of es) → lookup (key_eq key) es ≡ Some was → AllByRecursion P places
      → ((place : Place) → P place → SlotStands service node key was place → SlotGoes service node input key place now old new)
      → AllSlotsGo service node input places (set_value (key_eq key) es now) old new
  unfolding IsDistinct
  one_goes P [] places was now old new st distinct found near h = absurd (true≢false (sym (ap Rattle.std.specs.Option.is_some found)))
  one_goes P (e ∷ es) [] was now old new st distinct found near h = absurd st
  one_goes P (e ∷ es) (q ∷ qs) was now old new st distinct found near h = go (key_eq key e.0) refl (λ f. one_goes P es qs was now old new st.1 distinct.1 f near.1 h)
    where
      go : (b : Bool) → key_eq key e.0 ≡ b
          → (lookup (key_eq key) es ≡ Some was → AllSlotsGo service node input qs (set_value (key_eq key) es now) old new)
          → AllSlotsGo service node input (q ∷ qs) (set_value (key_eq key) (e ∷ es) now) old new
      go true t rest =
          let same = same_key key e.0 t in
          let here : e.1 ≡ was = same_some (sym (ap (λ b. cond b (Some e.1) (lookup (key_eq key) es)) t) ∙ found) in
          let s = h q near.0 (subst (λ k. SlotStands service node k was q) (sym same) (subst (λ w. SlotStands service node e.0 w q) here st.0)) in
          subst (λ b. AllSlotsGo service node input (q ∷ qs) (cond b ((e.0, now) ∷ es) (e ∷ set_value (key_eq key) es now)) old new) (sym t)
          (record {
            after = s.after ∷ qs;
            packets = s.packets;
            stands = (subst (λ k. SlotStands service node k now s.after) same s.stands, st.1);
            go = (
              s.after ∷ [],
              qs,
              s.packets,
              [],
              refl,
              sym (append-nil s.packets),
              s.turn,
              all_stay es qs st.1 (subst (λ k. AllByRecursion (λ y. key_eq k y ≡ false) (keys_of es)) (sym same) distinct.0),
            );
            wires = s.wires;
            spelled = s.spelled;
          })
      go false t rest =
          let r = rest (sym (ap (λ b. cond b (Some e.1) (lookup (key_eq key) es)) t) ∙ found) in
          subst (λ b. AllSlotsGo service node input (q ∷ qs) (cond b ((e.0, now) ∷ es) (e ∷ set_value (key_eq key) es now)) old new) (sym t)
          (record {
            after = q ∷ r.after;
            packets = r.packets;
            stands = (st.0, r.stands);
            go = (q ∷ [], r.after, [], r.packets, refl, refl, place_stays service node input q (only (key_of q) (ap (key_eq key) (place_key service node e.0 e.1 q st.0) ∙ t)), r.go);
            wires = r.wires;
            spelled = r.spelled;
          })

  -- the key's slot goes away
  pub one_leaves : (es : List (Key × Slot S)) (places : List Place) (was : Slot S) (old new : List Wire) → AllStand service node es places
      → IsDistinct key_eq (keys_of es) → lookup (key_eq key) es ≡ Some was
      → ((place : Place) → SlotStands service node key was place → SlotLeaves service node input place old new)
      → AllSlotsGo service node input places (remove_entry (key_eq key) es) old new
  unfolding IsDistinct
  one_leaves [] places was old new st distinct found h = absurd (true≢false (sym (ap Rattle.std.specs.Option.is_some found)))
  one_leaves (e ∷ es) [] was old new st distinct found h = absurd st
  one_leaves (e ∷ es) (q ∷ qs) was old new st distinct found h = go (key_eq key e.0) refl (λ f. one_leaves es qs was old new st.1 distinct.1 f h)
    where
      go : (b : Bool) → key_eq key e.0 ≡ b
          → (lookup (key_eq key) es ≡ Some was → AllSlotsGo service node input qs (remove_entry (key_eq key) es) old new)
          → AllSlotsGo service node input (q ∷ qs) (remove_entry (key_eq key) (e ∷ es)) old new
      go true t rest =
          let same = same_key key e.0 t in
          let here : e.1 ≡ was = same_some (sym (ap (λ b. cond b (Some e.1) (lookup (key_eq key) es)) t) ∙ found) in
          let s = h q (subst (λ k. SlotStands service node k was q) (sym same) (subst (λ w. SlotStands service node e.0 w q) here st.0)) in
          subst (λ b. AllSlotsGo service node input (q ∷ qs) (cond b es (e ∷ remove_entry (key_eq key) es)) old new) (sym t)
          (record {
            after = qs;
            packets = s.packets;
            stands = st.1;
            go = (
              [],
              qs,
              s.packets,
              [],
              refl,
              sym (append-nil s.packets),
              s.turn,
              all_stay es qs st.1 (subst (λ k. AllByRecursion (λ y. key_eq k y ≡ false) (keys_of es)) (sym same) distinct.0),
            );
            wires = s.wires;
            spelled = s.spelled;
          })
      go false t rest =
          let r = rest (sym (ap (λ b. cond b (Some e.1) (lookup (key_eq key) es)) t) ∙ found) in
          subst (λ b. AllSlotsGo service node input (q ∷ qs) (cond b es (e ∷ remove_entry (key_eq key) es)) old new) (sym t)
          (record {
            after = q ∷ r.after;
            packets = r.packets;
            stands = (st.0, r.stands);
            go = (q ∷ [], r.after, [], r.packets, refl, refl, place_stays service node input q (only (key_of q) (ap (key_eq key) (place_key service node e.0 e.1 q st.0) ∙ t)), r.go);
            wires = r.wires;
            spelled = r.spelled;
          })

-- a key that nothing is found for is none of these
pub none_found : {X : Type 0} (test : Key → Bool) (es : List (Key × X)) → lookup test es ≡ None → AllByRecursion (λ k. test k ≡ false) (keys_of es)
none_found test [] e = tt
none_found test (x ∷ es) e = go (test x.0) refl (λ f. none_found test es f)
  where
    go : (b : Bool) → test x.0 ≡ b → (lookup test es ≡ None → AllByRecursion (λ k. test k ≡ false) (keys_of es)) → AllByRecursion (λ k. test k ≡ false) (keys_of (x ∷ es))
    go true t rest = absurd (true≢false (ap Rattle.std.specs.Option.is_some (sym (ap (λ b. cond b (Some x.1) (lookup test es)) t) ∙ e)))
    go false t rest = (t, rest (sym (ap (λ b. cond b (Some x.1) (lookup test es)) t) ∙ e))
