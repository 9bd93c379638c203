-- Which clients a node knows, and whose openings are pending, after each of its turns.
use Rattle.std.proofs.Common.{◌≡◌, ◌∙◌, ℕ, zero, suc, ◌+◌, ◌^◌, ◌%◌, ◌&&◌, not, nat_lt, Bool, true, false, refl, sym, ap, ap₂, subst, true≢false, List, [], ◌∷◌, ◌++◌, map, length, filter, slice_get, Option, Some, None, is_some, option_map, eq-eqb, cond, if◌then◌else◌}
use Rattle.std.proofs.lemmas.List.{map-append}
use Rattle.std.proofs.lemmas.Map.Made.{lookup-map_values}
use Rattle.std.proofs.lemmas.Map.Steps.{set_value_same}
use Rattle.std.specs.Bool.{MatchBool}
use Rattle.std.specs.Map.{lookup, set_value, remove_entry}
use Rattle.indexmap.specs.IndexMap.{set_value_at}
use Rattle.ft_io.specs.declared.Key.{Key}
use Rattle.ft_io.specs.Key.{key_eq}
use Rattle.ft_io.proofs.Choices.{same_some}
use Rattle.seq_arith.specs.Packet.{Segment}
use Rattle.seq_arith.specs.Message.{Message}
use Rattle.ft_model.specs.Network.{source_of}
use Rattle.ft_model.specs.Node.{Node, is_for}
use Rattle.ft_model.specs.Node.Input.{Packet_comes, Message_comes}
use Rattle.ft_model.specs.Opening.{is_syn}
use Rattle.ft_model.specs.Wire.{Wire}
use Rattle.node_serving.specs.declared.serving.Serving.{Serving}
use Rattle.node_serving.specs.declared.slot.Slot.{Slot}
use Rattle.node_serving.specs.declared.slot.Slot.TheVariants as slot
use Rattle.node_serving.specs.Clients.{Clients, is_opening, pending_of, opens_one, with_opening, answered, known_after, known_as, known_in, Knows, KnowsOn}
use Rattle.node_serving.specs.Clients.Known.{Is_opening, Is_connected}
use Rattle.node_serving.specs.declared.slot.Opening.{Opening}
use Rattle.node_serving.specs.LogMessages.{opening_in, ended}
use Rattle.node_serving.specs.Openings.{Opened, Waits, Knocks, is_pending_slot, pending_slots}
use Rattle.node_serving.proofs.Admitted.{next_number}

module _ {S : Type 0} where
  -- what a key has, ..
  pub known_at : (key : Key) (es : List (Key × Slot S)) → lookup (key_eq key) (known_in es) ≡ option_map known_as (lookup (key_eq key) es)
  known_at key es = lookup-map_values known_as (key_eq key) es

  pub known_found : (key : Key) (es : List (Key × Slot S)) (was : Slot S) → lookup (key_eq key) es ≡ Some was → lookup (key_eq key) (known_in es) ≡ Some (known_as was)
  known_found key es was found = known_at key es ∙ ap (option_map known_as) found

  -- .. a slot that takes the place of another, ..
  pub known_set : (test : Key → Bool) (es : List (Key × Slot S)) (now : Slot S) → known_in (set_value test es now) ≡ set_value test (known_in es) (known_as now)
  known_set test [] now = refl
  known_set test (e ∷ es) now = go (test e.0) (known_set test es now)
    where
      go : (b : Bool) → known_in (set_value test es now) ≡ set_value test (known_in es) (known_as now)
          → known_in (cond b ((e.0, now) ∷ es) (e ∷ set_value test es now))
          ≡ cond b ((e.0, known_as now) ∷ known_in es) ((e.0, known_as e.1) ∷ set_value test (known_in es) (known_as now))
      go true rest = refl
      go false rest = ap (λ xs. (e.0, known_as e.1) ∷ xs) rest

  pub same_known : (key : Key) (es : List (Key × Slot S)) (was now : Slot S) → lookup (key_eq key) es ≡ Some was → known_as now ≡ known_as was
      → known_in (set_value (key_eq key) es now) ≡ known_in es
  same_known key es was now found kind =
      known_set (key_eq key) es now ∙ set_value_same (key_eq key) (known_in es) (known_as now) (known_found key es was found ∙ ap Some (sym kind))

  -- .. also in the order of the slots, ..
  pub same_known_at : (es : List (Key × Slot S)) (i : ℕ) (was now : Slot S) → slice_get (map (λ e. e.1) es) i ≡ Some was → known_as now ≡ known_as was
      → known_in (set_value_at es i now) ≡ known_in es
  same_known_at [] i was now at kind = refl
  same_known_at (e ∷ es) zero was now at kind = ap (λ k. (e.0, k) ∷ known_in es) (kind ∙ ap known_as (sym (same_some at)))
  same_known_at (e ∷ es) (suc i) was now at kind = ap (λ xs. (e.0, known_as e.1) ∷ xs) (same_known_at es i was now at kind)

  -- .. and one that is removed
  pub known_drop : (test : Key → Bool) (es : List (Key × Slot S)) → known_in (remove_entry test es) ≡ remove_entry test (known_in es)
  known_drop test [] = refl
  known_drop test (e ∷ es) = go (test e.0) (known_drop test es)
    where
      go : (b : Bool) → known_in (remove_entry test es) ≡ remove_entry test (known_in es)
          → known_in (cond b es (e ∷ remove_entry test es)) ≡ cond b (known_in es) ((e.0, known_as e.1) ∷ remove_entry test (known_in es))
      go true rest = refl
      go false rest = ap (λ xs. (e.0, known_as e.1) ∷ xs) rest

  -- an end changes nothing of what is known
  pub known_ended : (was : Slot S) → known_as (ended was) ≡ known_as was
  known_ended (slot.Live c) = refl
  known_ended (slot.Pending o) = refl
  known_ended slot.Done = refl

  -- as many openings are pending
  pub as_many : (es : List (Key × Slot S)) → pending_of (known_in es) ≡ pending_slots es
  as_many [] = refl
  as_many (e ∷ es) = go e.1 (as_many es)
    where
      count : (b : Bool) → pending_of (known_in es) ≡ pending_slots es
          → length (cond b ((e.0, known_as e.1) ∷ filter (λ x. is_opening x.1) (known_in es)) (filter (λ x. is_opening x.1) (known_in es)))
          ≡ length (cond b (e ∷ filter (λ x. is_pending_slot x.1) es) (filter (λ x. is_pending_slot x.1) es))
      count true rest = ap suc rest
      count false rest = rest

      kind : (s : Slot S) → is_opening (known_as s) ≡ is_pending_slot s
      kind (slot.Pending o) = refl
      kind (slot.Live c) = refl
      kind slot.Done = refl

      go : (s : Slot S) → pending_of (known_in es) ≡ pending_slots es → pending_of (known_in (e ∷ es)) ≡ pending_slots (e ∷ es)
      go s rest =
          ap (λ b. length (cond b ((e.0, known_as e.1) ∷ filter (λ x. is_opening x.1) (known_in es)) (filter (λ x. is_opening x.1) (known_in es)))) (kind e.1)
          ∙ count (is_pending_slot e.1) rest

-- what an answer of the log does
module _ {S : Type 0} (key : Key) (connects : ℕ → Bool) (es : List (Key × Slot S)) where
  pub unanswered : opening_in (lookup (key_eq key) es) ≡ None → known_in es ≡ answered key connects (lookup (key_eq key) (known_in es)) (known_in es)
  unanswered none = go (lookup (key_eq key) es) none (known_at key es)
    where
      go : (o : Option (Slot S)) → opening_in o ≡ None → lookup (key_eq key) (known_in es) ≡ option_map known_as o
          → known_in es ≡ answered key connects (lookup (key_eq key) (known_in es)) (known_in es)
      go None n is = ap (λ o. answered key connects o (known_in es)) (sym is)
      go (Some (slot.Pending o)) n is = absurd (true≢false (ap is_some n))
      go (Some (slot.Live c)) n is = ap (λ o. answered key connects o (known_in es)) (sym is)
      go (Some slot.Done) n is = ap (λ o. answered key connects o (known_in es)) (sym is)

  module _ (o : Opening) (found : lookup (key_eq key) es ≡ Some (slot.Pending o)) where
    is_answered : (b : Bool) → connects o.cisn.0 ≡ b
        → answered key connects (lookup (key_eq key) (known_in es)) (known_in es)
        ≡ if b then set_value (key_eq key) (known_in es) Is_connected else remove_entry (key_eq key) (known_in es)
    is_answered b t =
        ap (λ x. answered key connects x (known_in es)) (known_found key es (slot.Pending o) found)
        ∙ ap (λ x. if x then set_value (key_eq key) (known_in es) Is_connected else remove_entry (key_eq key) (known_in es)) t

    pub answered_live : (now : Slot S) → known_as now ≡ Is_connected → connects o.cisn.0 ≡ true
        → known_in (set_value (key_eq key) es now) ≡ answered key connects (lookup (key_eq key) (known_in es)) (known_in es)
    answered_live now kind t =
        known_set (key_eq key) es now ∙ (ap (set_value (key_eq key) (known_in es)) kind ∙ sym (is_answered true t))

    pub answered_none : connects o.cisn.0 ≡ false → known_in (remove_entry (key_eq key) es) ≡ answered key connects (lookup (key_eq key) (known_in es)) (known_in es)
    answered_none t = known_drop (key_eq key) es ∙ sym (is_answered false t)

-- what a whole turn does
module _ {S : Type 0} (node : Node) where
  pub message_knows : (message : Message) (was now : Serving S) → message.boot ≡ node.boot → now.next.0 ≡ was.next.0
      → known_in now.slots.entries ≡ known_after message.body (known_in was.slots.entries) → KnowsOn node (Message_comes message) was now
  message_knows message was now boot number receipt clients k =
      let after : Clients = record { opened = clients.opened; known = known_after message.body clients.known } in
      let knows : Knows node after now = record { number = number ∙ k.number; known = receipt ∙ ap (known_after message.body) k.known } in
      subst (λ b. Knows node (if b then after else clients) now) (sym (eq-eqb message.boot node.boot boot)) knows

  module _ (segment : Segment) where
    -- a segment that opens nothing
    still : (was now : Serving S) → now.next.0 ≡ was.next.0 → known_in now.slots.entries ≡ known_in was.slots.entries → (clients : Clients) → Knows node clients was
        → opens_one node segment clients.known ≡ false → Knows node (if opens_one node segment clients.known then with_opening segment clients else clients) now
    still was now number same clients k none =
        subst (λ b. Knows node (if b then with_opening segment clients else clients) now) (sym none) (record { number = number ∙ k.number; known = same ∙ k.known })

    pub other_knows : (was : Serving S) → is_for node.server segment ≡ false → KnowsOn node (Packet_comes segment) was was
    other_knows was other clients k =
        still was was refl refl clients k
        (ap (λ b. b && not (is_some (lookup (key_eq (source_of segment)) clients.known)) && (is_syn segment && nat_lt (pending_of clients.known) 64)) other)

    module _ (mine : is_for node.server segment ≡ true) where
      pub known_knows : (was now : Serving S) → is_some (lookup (key_eq (source_of segment)) was.slots.entries) ≡ true → now.next.0 ≡ was.next.0
          → known_in now.slots.entries ≡ known_in was.slots.entries → KnowsOn node (Packet_comes segment) was now
      known_knows was now there number same clients k =
          still was now number same clients k
          (ap₂ (λ a b. a && not b && (is_syn segment && nat_lt (pending_of clients.known) 64)) mine
          (ap (λ xs. is_some (lookup (key_eq (source_of segment)) xs)) (sym k.known) ∙ known_some (lookup (key_eq (source_of segment)) was.slots.entries) there (known_at (source_of segment) was.slots.entries)))
        where
          known_some : (o : Option (Slot S)) → is_some o ≡ true → lookup (key_eq (source_of segment)) (known_in was.slots.entries) ≡ option_map known_as o
              → is_some (lookup (key_eq (source_of segment)) (known_in was.slots.entries)) ≡ true
          known_some None t is = absurd (true≢false (sym t))
          known_some (Some s) t is = ap is_some is

      pub strange_knows : (was now : Serving S) (old new : List Wire) → lookup (key_eq (source_of segment)) was.slots.entries ≡ None
          → Knocks node segment (source_of segment) was.next.0 now.next.0 was.slots.entries now.slots.entries old new → KnowsOn node (Packet_comes segment) was now
      strange_knows was now old new gone knocks clients k = go (is_syn segment && nat_lt (pending_slots was.slots.entries) 64) refl knocks
        where
          may : opens_one node segment clients.known ≡ (is_syn segment && nat_lt (pending_slots was.slots.entries) 64)
          may =
              ap₂ (λ a b. a && not b && (is_syn segment && nat_lt (pending_of clients.known) 64)) mine
              (ap (λ xs. is_some (lookup (key_eq (source_of segment)) xs)) (sym k.known)
              ∙ ap is_some (known_at (source_of segment) was.slots.entries ∙ ap (option_map known_as) gone))
              ∙ ap (λ n. is_syn segment && nat_lt n 64) (ap pending_of (sym k.known) ∙ as_many was.slots.entries)

          go : (b : Bool) → (is_syn segment && nat_lt (pending_slots was.slots.entries) 64) ≡ b
              → MatchBool b (Opened node segment (source_of segment) was.next.0 now.next.0 was.slots.entries now.slots.entries old new)
              (Waits was.next.0 now.next.0 was.slots.entries now.slots.entries old new)
              → Knows node (if opens_one node segment clients.known then with_opening segment clients else clients) now
          go false t w = still was now w.number (ap known_in w.slots) clients k (may ∙ t)
          go true t o =
              let knows : Knows node (with_opening segment clients) now =
              record {
                number = o.counted ∙ (ap (λ n. (n + 65536) % 2 ^ 32) k.number ∙ next_number node.isn clients.opened);
                known = ap known_in o.slots ∙ (map-append (λ (e : Key × Slot S). (e.0, known_as e.1)) was.slots.entries ((source_of segment, slot.Pending o.opening) ∷ [])
                    ∙ ap₂ (λ xs n. xs ++ (source_of segment, Is_opening n) ∷ []) k.known (ap (λ n. n.cisn) o.numbers));
              } in
              subst (λ b. Knows node (if b then with_opening segment clients else clients) now) (sym (may ∙ t)) knows
