-- The Opens with which a turn ends, over slots and over places.
use Rattle.std.proofs.Common.{◌≡◌, ◌∙◌, ℕ, ◌+◌, Bool, refl, sym, ap, ap₂, List, [], ◌∷◌, ◌++◌, map, filter, length, take, slice_get, Some, append_assoc, append-nil}
use mir.Val.{bool_byte}
use Rattle.std.proofs.lemmas.List.{map-append, length-append}
use Rattle.std.proofs.lemmas.List.Elements.{filter-append}
use Rattle.std.proofs.lemmas.Grind.{flat_map-append}
use Rattle.std.specs.List.{flat_map}
use Rattle.ft_io.specs.declared.Key.{Key}
use Rattle.server_trait.specs.Service.{Machine}
use Rattle.seq_arith.specs.declared.kinds.Grammar.{Grammar}
use Rattle.ft_model.specs.Network.{Packet}
use Rattle.ft_model.specs.Node.{Node, Place, Input}
use Rattle.ft_model.specs.Node.Place.{Opens, Lives, Ended}
use Rattle.ft_model.specs.ServingTurn.{opens_at}
use Rattle.ft_model.proofs.Lists.{all_append}
use Rattle.ft_model.specs.Wire.{Wire, wire_by, HasWireBy}
use Rattle.node_serving.specs.declared.slot.Slot.{Slot}
use Rattle.node_serving.specs.declared.slot.Slot.TheVariants as slot
use Rattle.node_serving.specs.Openings.{ArePut, slot_opens, all_opens, is_pending_slot, pending_slots}
use Rattle.node_serving.specs.Slots.{SlotStands, AllStand}
use Rattle.node_serving.proofs.Collecting.{take_more}

pub slot_is : {S : Type 0} (service : Machine S) (node : Node) (input : Input) (key : Key) (s : Slot S) (place : Place) → SlotStands service node key s place
    → opens_at node input place ≡ slot_opens node input key s
slot_is service node input key (slot.Pending o) (Opens n timestamping) st = λ j. opens_at node input (Opens (st.0 j) (st.1 j))
slot_is service node input key (slot.Pending o) (Lives p) st = absurd st
slot_is service node input key (slot.Pending o) (Ended k) st = absurd st
slot_is service node input key (slot.Live c) (Opens n timestamping) st = absurd st
slot_is service node input key (slot.Live c) (Lives p) st = refl
slot_is service node input key (slot.Live c) (Ended k) st = absurd st
slot_is service node input key slot.Done (Opens n timestamping) st = absurd st
slot_is service node input key slot.Done (Lives p) st = absurd st
slot_is service node input key slot.Done (Ended k) st = refl

-- the Opens of the places are those of the slots that stand there
pub opens_are : {S : Type 0} (service : Machine S) (node : Node) (input : Input) (es : List (Key × Slot S)) (places : List Place) → AllStand service node es places
    → flat_map (opens_at node input) places ≡ all_opens node input es
opens_are service node input [] [] st = refl
opens_are service node input [] (q ∷ qs) st = absurd st
opens_are service node input (e ∷ es) [] st = absurd st
opens_are service node input (e ∷ es) (q ∷ qs) st = ap₂ ◌++◌ (slot_is service node input e.0 e.1 q st.0) (opens_are service node input es qs st.1)

-- packets after packets
pub put_on : (grammar : Grammar) (first more : List Packet) (old mid new : List Wire) → ArePut grammar first old mid → ArePut grammar more mid new → ArePut grammar (first ++ more) old new
put_on grammar first more old mid new a b = record {
  wires = b.wires ∙ (ap (λ xs. xs ++ map (wire_by grammar) more) a.wires
      ∙ (append_assoc old (map (wire_by grammar) first) (map (wire_by grammar) more) ∙ ap (λ xs. old ++ xs) (sym (map-append (wire_by grammar) first more))));
  spelled = all_append (HasWireBy grammar) first more a.spelled b.spelled;
}

pub put_none : (grammar : Grammar) (reported : List Wire) → ArePut grammar [] reported reported
put_none grammar reported = record { wires = sym (append-nil reported); spelled = tt }

-- the Opens of one slot more
pub opens_more : {S : Type 0} (node : Node) (input : Input) (es : List (Key × Slot S)) (i : ℕ) (key : Key) (s : Slot S) → slice_get es i ≡ Some (key, s)
    → all_opens node input (take (i + 1) es) ≡ all_opens node input (take i es) ++ slot_opens node input key s
opens_more node input es i key s at =
    ap (all_opens node input) (take_more es i (key, s) at) ∙ (flat_map-append (λ e. slot_opens node input e.0 e.1) (take i es) ((key, s) ∷ [])
    ∙ ap (λ ps. all_opens node input (take i es) ++ ps) (append-nil (slot_opens node input key s)))

-- one more pending opening, if the slot has one
pub pending_more : {S : Type 0} (es : List (Key × Slot S)) (i : ℕ) (key : Key) (s : Slot S) → slice_get es i ≡ Some (key, s)
    → pending_slots (take (i + 1) es) ≡ pending_slots (take i es) + pending_slots ((key, s) ∷ [])
pending_more {S} es i key s at =
    let test : Key × Slot S → Bool = λ e. is_pending_slot e.1 in
    ap pending_slots (take_more es i (key, s) at) ∙ (ap length (filter-append test (take i es) ((key, s) ∷ []))
    ∙ length-append (filter test (take i es)) (filter test ((key, s) ∷ [])))

pub one_pending : {S : Type 0} (key : Key) (s : Slot S) → pending_slots ((key, s) ∷ []) ≡ bool_byte (is_pending_slot s)
one_pending key (slot.Pending o) = refl
one_pending key (slot.Live c) = refl
one_pending key slot.Done = refl
