-- A segment of a client that isn't known.
use Rattle.std.proofs.Common.{◌≡◌, ◌∙◌, ℕ, suc, ◌+◌, ◌%◌, ◌^◌, Bool, true, false, ◌&&◌, not, nat_lt, refl, sym, ap, ap₂, subst, true≢false, arith, List, [], ◌∷◌, ◌++◌, filter, length, append-nil, Some, None, cond, if◌then◌else◌}
use Rattle.std.specs.List.{AllByRecursion, flat_map}
use Rattle.std.specs.Option.{is_some}
use Rattle.std.specs.Map.{lookup, keys_of}
use Rattle.std.proofs.lemmas.Grind.{flat_map-append}
use Rattle.ft_io.specs.declared.Key.{Key}
use Rattle.ft_io.specs.Key.{key_eq}
use Rattle.seq_arith.specs.Packet.{Segment, text_size}
use Rattle.tcp_rules.specs.Profile.{Profile}
use Rattle.tcp_rules.specs.Timestamping.{timestamps_sent}
use Rattle.server_trait.specs.Service.{Machine}
use Rattle.tcp_rules.specs.Profile.{grammar_of}
use Rattle.ft_model.specs.Network.{source_of}
use Rattle.ft_model.specs.Node.{Node, Place, key_of, is_for, is_known, place_at, is_pending, pending_count}
use Rattle.ft_model.specs.Node.Place.{Opens, Lives, Ended}
use Rattle.ft_model.specs.Node.Input.{Packet_comes}
use Rattle.ft_model.specs.Opening.{is_syn, initial_number, numbers_for, timestamping_for}
use Rattle.ft_model.specs.ServingTurn.{opens_at, newcomers, is_strange}
use Rattle.node_serving.specs.declared.slot.Slot.{Slot}
use Rattle.node_serving.specs.declared.slot.Slot.TheVariants as slot
use Rattle.seq_arith.specs.Message.Body.{OpenMsg}
use Rattle.ft_model.specs.Connection.{reported_by}
use Rattle.ft_model.specs.Wire.{Wire}
use Rattle.node_serving.specs.declared.slot.Opening.{Opening}
use Rattle.node_serving.specs.Openings.{ArePut, Admits, all_opens, slot_opens, is_pending_slot, pending_slots}
use Rattle.node_serving.specs.Slots.{numbers_of, SlotStands, AllStand}
use Rattle.node_serving.proofs.Asked.{all_other, asked_at_syn}
use Rattle.node_serving.proofs.OneKey.{place_key, none_found}
use Rattle.node_serving.proofs.Opens.{opens_are, put_none}
use Rattle.ft_model.proofs.PlayableLemmas.{same_either_way}

-- a place has a key exactly where the slot that stands there has it
pub place_has : {S : Type 0} (service : Machine S) (node : Node) (key : Key) (e : Key × Slot S) (place : Place) → SlotStands service node e.0 e.1 place
    → key_eq (key_of place) key ≡ key_eq key e.0
place_has service node key e place st = ap (λ k. key_eq k key) (place_key service node e.0 e.1 place st) ∙ same_either_way e.0 key

module _ {S : Type 0} (service : Machine S) (node : Node) where
  -- a key without a slot has no place
  pub unknown : (key : Key) (es : List (Key × Slot S)) (places : List Place) → AllStand service node es places → AllByRecursion (λ k. key_eq key k ≡ false) (keys_of es)
      → is_known key places ≡ false
  unknown key [] [] st none = refl
  unknown key [] (q ∷ qs) st none = absurd st
  unknown key (e ∷ es) [] st none = absurd st
  unknown key (e ∷ es) (q ∷ qs) st none =
      let other : key_eq (key_of q) key ≡ false = place_has service node key e q st.0 ∙ none.0 in
      ap (λ b. is_some (if b then Some q else place_at key qs)) other ∙ unknown key es qs st.1 none.1

  -- as many openings are pending at the places as at the slots
  is_pending_there : (key : Key) (s : Slot S) (place : Place) → SlotStands service node key s place → is_pending place ≡ is_pending_slot s
  is_pending_there key (slot.Pending o) (Opens n timestamping) st = refl
  is_pending_there key (slot.Live c) (Lives p) st = refl
  is_pending_there key slot.Done (Ended k) st = refl
  is_pending_there key (slot.Pending o) (Lives p) st = absurd st
  is_pending_there key (slot.Pending o) (Ended k) st = absurd st
  is_pending_there key (slot.Live c) (Opens n timestamping) st = absurd st
  is_pending_there key (slot.Live c) (Ended k) st = absurd st
  is_pending_there key slot.Done (Opens n timestamping) st = absurd st
  is_pending_there key slot.Done (Lives p) st = absurd st

  pub as_many_pending : (es : List (Key × Slot S)) (places : List Place) → AllStand service node es places → pending_count places ≡ pending_slots es
  as_many_pending [] [] st = refl
  as_many_pending [] (q ∷ qs) st = absurd st
  as_many_pending (e ∷ es) [] st = absurd st
  as_many_pending (e ∷ es) (q ∷ qs) st = go (is_pending_slot e.1) refl (as_many_pending es qs st.1)
    where
      go : (b : Bool) → is_pending_slot e.1 ≡ b → pending_count qs ≡ pending_slots es → pending_count (q ∷ qs) ≡ pending_slots (e ∷ es)
      go b t rest =
          let there : is_pending q ≡ b = is_pending_there e.0 e.1 q st.0 ∙ t in
          ap (λ x. length (if x then q ∷ filter is_pending qs else filter is_pending qs)) there
          ∙ (both b ∙ sym (ap (λ x. length (if x then e ∷ filter (λ d. is_pending_slot d.1) es else filter (λ d. is_pending_slot d.1) es)) t))
        where
          both : (b : Bool) → length (if b then q ∷ filter is_pending qs else filter is_pending qs) ≡ length (if b then e ∷ filter (λ d. is_pending_slot d.1) es else filter (λ d. is_pending_slot d.1) es)
          both true = ap suc rest
          both false = rest

-- a slot more at the end
pub one_stands_more : {S : Type 0} (service : Machine S) (node : Node) (es : List (Key × Slot S)) (places : List Place) (key : Key) (s : Slot S) (place : Place)
    → AllStand service node es places → SlotStands service node key s place → AllStand service node (es ++ (key, s) ∷ []) (places ++ place ∷ [])
one_stands_more service node [] [] key s place st at = (at, tt)
one_stands_more service node [] (q ∷ qs) key s place st at = absurd st
one_stands_more service node (e ∷ es) [] key s place st at = absurd st
one_stands_more service node (e ∷ es) (q ∷ qs) key s place st at = (st.0, one_stands_more service node es qs key s place st.1 at)

-- the initial number after this one
pub next_number : (isn n : ℕ) → (initial_number isn n + 65536) % 2 ^ 32 ≡ initial_number isn (n + 1)
next_number isn n = omega arith

module _ {S : Type 0} (service : Machine S) (node : Node) (segment : Segment) (opened : ℕ) (places : List Place) where
  -- what a segment admits, from what it makes
  admits : (came : List Place) (next : ℕ) (es : List (Key × Slot S)) (old new : List Wire) → newcomers node (Packet_comes segment) opened places ≡ came
      → next ≡ initial_number node.isn (opened + length came) → AllStand service node es (places ++ came) → ArePut (grammar_of node.profile) (all_opens node (Packet_comes segment) es) old new
      → Admits service node segment opened places next es old new
  admits came next es old new is number stands asked = record {
    number = number ∙ ap (λ ps. initial_number node.isn (opened + length ps)) (sym is);
    stands = subst (λ ps. AllStand service node es (places ++ ps)) (sym is) stands;
    opens = subst (λ ps. ArePut (grammar_of node.profile) (flat_map (opens_at node (Packet_comes segment)) (places ++ ps)) old new) (sym is)
        (subst (λ ps. ArePut (grammar_of node.profile) ps old new) (sym (opens_are service node (Packet_comes segment) es (places ++ came) stands)) asked);
  }

  unasked_all : (es : List (Key × Slot S)) → lookup (key_eq (source_of segment)) es ≡ None → all_opens node (Packet_comes segment) es ≡ []
  unasked_all es none = all_other node segment es (none_found (key_eq (source_of segment)) es none)

  -- a segment that isn't a SYN, or one that comes while 64 are pending, makes nothing
  pub none_admitted : (next : ℕ) (es : List (Key × Slot S)) (reported : List Wire) → lookup (key_eq (source_of segment)) es ≡ None → next ≡ initial_number node.isn opened
      → AllStand service node es places → (is_syn segment && nat_lt (pending_slots es) 64) ≡ false → Admits service node segment opened places next es reported reported
  none_admitted next es reported none number st shut = admits [] next es reported reported nothing (number ∙ ap (initial_number node.isn) same)
      (subst (AllStand service node es) (sym (append-nil places)) st) (subst (λ ps. ArePut (grammar_of node.profile) ps reported reported) (sym (unasked_all es none)) (put_none (grammar_of node.profile) reported))
    where
      same : opened ≡ opened + 0
      same = omega arith

      last : (a b c : Bool) → (b && c) ≡ false → (a && b && c) ≡ false
      last true true c e = e
      last true false c e = refl
      last false b c e = refl

      nothing : newcomers node (Packet_comes segment) opened places ≡ []
      nothing = ap (λ b. if b then Opens (numbers_for node.profile node.isn opened segment) (timestamping_for node.profile segment) ∷ [] else [])
          (last (is_strange node segment places) (is_syn segment) (nat_lt (pending_count places) 64)
          (ap (λ n. is_syn segment && nat_lt n 64) (as_many_pending service node es places st) ∙ shut))

  -- another SYN makes a pending opening, which is asked for
  pub one_admitted : (key : Key) (o : Opening) (next : ℕ) (es : List (Key × Slot S)) (old new : List Wire) → source_of segment ≡ key → lookup (key_eq key) es ≡ None
      → is_for node.server segment ≡ true → is_syn segment ≡ true → nat_lt (pending_slots es) 64 ≡ true → AllStand service node es places
      → numbers_for node.profile node.isn opened segment ≡ numbers_of key o → timestamping_for node.profile segment ≡ o.timestamping → next ≡ initial_number node.isn (opened + 1)
      → ArePut (grammar_of node.profile) (reported_by node.boot (OpenMsg (numbers_of key o)) ∷ []) old new
      → Admits service node segment opened places next (es ++ (key, slot.Pending o) ∷ []) old new
  one_admitted key o next es old new from none mine syn few st numbers timestamping number asked =
      admits (Opens (numbers_for node.profile node.isn opened segment) (timestamping_for node.profile segment) ∷ []) next (es ++ (key, slot.Pending o) ∷ []) old new one number
      (one_stands_more service node es places key (slot.Pending o) (Opens (numbers_for node.profile node.isn opened segment) (timestamping_for node.profile segment)) st (numbers, timestamping))
      (subst (λ ps. ArePut (grammar_of node.profile) ps old new) (sym opens) asked)
    where
      gone : lookup (key_eq (source_of segment)) es ≡ None
      gone = subst (λ k. lookup (key_eq k) es ≡ None) (sym from) none

      stranger : is_strange node segment places ≡ true
      stranger = ap₂ ◌&&◌ mine (ap not (unknown service node (source_of segment) es places st (none_found (key_eq (source_of segment)) es gone)))

      opening : (is_strange node segment places && is_syn segment && nat_lt (pending_count places) 64) ≡ true
      opening = ap₂ ◌&&◌ (ap₂ ◌&&◌ stranger syn) (ap (λ n. nat_lt n 64) (as_many_pending service node es places st) ∙ few)

      one : newcomers node (Packet_comes segment) opened places ≡ Opens (numbers_for node.profile node.isn opened segment) (timestamping_for node.profile segment) ∷ []
      one = ap (λ b. if b then Opens (numbers_for node.profile node.isn opened segment) (timestamping_for node.profile segment) ∷ [] else []) opening

      opens : all_opens node (Packet_comes segment) (es ++ (key, slot.Pending o) ∷ []) ≡ reported_by node.boot (OpenMsg (numbers_of key o)) ∷ []
      opens = flat_map-append (λ (e : Key × Slot S). slot_opens node (Packet_comes segment) e.0 e.1) es ((key, slot.Pending o) ∷ [])
          ∙ (ap (λ ps. ps ++ all_opens {S = S} node (Packet_comes segment) ((key, slot.Pending o) ∷ [])) (unasked_all es gone)
          ∙ (append-nil _ ∙ asked_at_syn node segment key o mine syn from (ap (λ n. n.cisn) numbers)))

-- a key with a slot has a place
pub known : {S : Type 0} (service : Machine S) (node : Node) (key : Key) (es : List (Key × Slot S)) (places : List Place) → AllStand service node es places
    → is_some (lookup (key_eq key) es) ≡ true → is_known key places ≡ true
known service node key [] [] st found = absurd (true≢false (sym found))
known service node key [] (q ∷ qs) st found = absurd st
known service node key (e ∷ es) [] st found = absurd st
known service node key (e ∷ es) (q ∷ qs) st found = go (key_eq key e.0) refl (known service node key es qs st.1)
  where
    go : (b : Bool) → key_eq key e.0 ≡ b → (is_some (lookup (key_eq key) es) ≡ true → is_known key qs ≡ true) → is_known key (q ∷ qs) ≡ true
    go true t rest = ap (λ b. is_some (if b then Some q else place_at key qs)) (place_has service node key e q st.0 ∙ t)
    go false t rest = ap (λ b. is_some (if b then Some q else place_at key qs)) (place_has service node key e q st.0 ∙ t)
        ∙ rest (sym (ap (λ b. is_some (cond b (Some e.1) (lookup (key_eq key) es))) t) ∙ found)

-- the numbers that a SYN asks for, as an opening's
pub same_numbers : (profile : Profile) (isn opened : ℕ) (segment : Segment) (key : Key) (o : Opening) → source_of segment ≡ key → segment.head.seq ≡ o.cisn.0 → initial_number isn opened ≡ o.sisn.0
    → text_size segment.head.mss (timestamps_sent (timestamping_for profile segment)) ≡ o.mss → numbers_for profile isn opened segment ≡ numbers_of key o
same_numbers profile isn opened segment key o from seq number size = cc
