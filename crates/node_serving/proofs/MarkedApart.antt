-- A turn of a node that serves, as each key has it: that of a server with this key alone.
use Rattle.std.proofs.Common.{◌≡◌, ◌∙◌, ℕ, Bool, true, false, ◌&&◌, ◌==◌, refl, sym, ap, ap₂, subst, true≢false, List, [], ◌∷◌, ◌++◌, map, append_assoc, append-nil, Option, Some, None, cond, inl, IfOk, if◌then◌else◌}
use Rattle.std.proofs.lemmas.List.{map-append}
use Rattle.std.specs.List.{AllByRecursion, IsDistinct, flat_map}
use Rattle.std.specs.Map.{lookup, keys_of}
use Rattle.std.specs.Option.{option_to_list}
use Rattle.ft_io.specs.declared.Key.{Key}
use Rattle.ft_io.specs.Key.{key_eq}
use Rattle.seq_arith.specs.Message.{Message, Numbers}
use Rattle.seq_arith.specs.Message.Body.{OpenMsg}
use Rattle.seq_arith.proofs.MessageSpelling.{message_is_read}
use Rattle.server_trait.specs.Service.{Machine}
use Rattle.seq_arith.specs.declared.kinds.Grammar.{Grammar}
use Rattle.tcp_rules.specs.Profile.{grammar_of}
use Rattle.ft_model.specs.Connection.{reported_by}
use Rattle.ft_model.specs.Network.{Packet, source_of}
use Rattle.ft_model.specs.Node.{Node, Place, Input, is_for}
use Rattle.ft_model.specs.Node.Place.{Opens, Lives, Ended}
use Rattle.ft_model.specs.Node.Input.{Packet_comes, Message_comes, Noise_comes, Tick_comes}
use Rattle.ft_model.specs.Opening.{is_syn, initial_number}
use Rattle.ft_model.specs.ServingTurn.{ServingTurn, concerns, is_asked, opens_at, newcomers, refusals}
use Rattle.ft_model.specs.Wire.{Wire, wire_by, HasWireBy}
use Rattle.ft_model.proofs.Lists.{same_key, key_is, all_append, all_weaker}
use Rattle.ft_model.proofs.AuthorTurns.{all_split}
use Rattle.node_serving.specs.declared.serving.Serving.{Serving}
use Rattle.node_serving.specs.declared.slot.Slot.{Slot}
use Rattle.node_serving.specs.declared.slot.Slot.TheVariants as slot
use Rattle.node_serving.specs.Alone.{StandsFor, IsNearFor, IsForSubject, KeyMeets, KeyGoes, SlotsAlone, ServesAlone, coming_to, slot_of}
use Rattle.node_serving.specs.Openings.{ArePut, slot_opens, all_opens}
use Rattle.node_serving.specs.Slots.{numbers_of}
use Rattle.node_serving.specs.Ownership.{of_key, IsFor}
use Rattle.node_serving.proofs.Found.{not_found}
use Rattle.node_serving.proofs.Keyed.{none_of, all_its}
use Rattle.node_serving.proofs.Opens.{slot_is}
use Rattle.node_serving.proofs.Ticked.{of_both}

-- an opening is asked for only by an input that is about its key
asked_about : (node : Node) (input : Input) (n : Numbers) → is_asked node input n ≡ true → concerns node input n.key ≡ true
asked_about node (Packet_comes segment) n e = parts (is_for node.server segment) (is_syn segment) (key_eq (source_of segment) n.key) (segment.head.seq == n.cisn) e
  where
    parts : (a b c d : Bool) → (a && b && c && d) ≡ true → (a && c) ≡ true
    parts true true true d e = refl
    parts true true false d e = absurd (true≢false (sym e))
    parts true false c d e = absurd (true≢false (sym e))
    parts false b c d e = absurd (true≢false (sym e))
asked_about node Tick_comes n e = refl
asked_about node (Message_comes message) n e = absurd (true≢false (sym e))
asked_about node Noise_comes n e = absurd (true≢false (sym e))

-- an Open tells of its key
pub open_for : (grammar : Grammar) (boot : ℕ) (n : Numbers) (key : Key) → key ≡ n.key → HasWireBy grammar (reported_by boot (OpenMsg n)) → IsFor grammar key (wire_by grammar (reported_by boot (OpenMsg n)))
open_for grammar boot n key same spelled =
    let message : Message = record { boot = boot; body = OpenMsg n } in
    subst (λ r. IfOk r (λ m. Rattle.node_serving.specs.Ownership.reports_of m.body key ≡ true)) (sym (message_is_read message spelled.0)) (ap (λ k. key_eq n.key k) same ∙ key_is n.key)

-- packets of those that an input is about are none of another key's
silent_whose : (node : Node) (input : Input) (key : Key) (reported : List Wire) → concerns node input key ≡ false → AllByRecursion (IsForSubject node input) reported → of_key (grammar_of node.profile) key reported ≡ []
silent_whose node input key [] other whose = refl
silent_whose node input key (w ∷ ws) other whose = one w whose.0 (silent_whose node input key ws other whose.1)
  where
    one : (w : Wire) → IsForSubject node input w → of_key (grammar_of node.profile) key ws ≡ [] → of_key (grammar_of node.profile) key (w ∷ ws) ≡ []
    one w (k, about, its) rest = go (key_eq k key) refl
      where
        go : (b : Bool) → key_eq k key ≡ b → of_key (grammar_of node.profile) key (w ∷ ws) ≡ []
        go true t = absurd (true≢false (sym (subst (λ x. concerns node input x ≡ true) (same_key k key t) about) ∙ other))
        go false t = of_both (grammar_of node.profile) key (w ∷ []) ws ∙ (ap (λ x. x ++ of_key (grammar_of node.profile) key ws) (none_of (grammar_of node.profile) k key (w ∷ []) (its, tt) t) ∙ rest)

module _ {S : Type 0} (node : Node) (input : Input) where
  opens_for : (key : Key) (s : Slot S) → AllByRecursion (HasWireBy (grammar_of node.profile)) (slot_opens node input key s) → AllByRecursion (IsFor (grammar_of node.profile) key) (map (wire_by (grammar_of node.profile)) (slot_opens node input key s))
  opens_for key (slot.Pending o) spelled = go (is_asked node input (numbers_of key o)) spelled
    where
      go : (b : Bool) → AllByRecursion (HasWireBy (grammar_of node.profile)) (if b then reported_by node.boot (OpenMsg (numbers_of key o)) ∷ [] else [])
          → AllByRecursion (IsFor (grammar_of node.profile) key) (map (wire_by (grammar_of node.profile)) (if b then reported_by node.boot (OpenMsg (numbers_of key o)) ∷ [] else []))
      go true a = (open_for (grammar_of node.profile) node.boot (numbers_of key o) key refl a.0, tt)
      go false a = tt
  opens_for key (slot.Live c) spelled = tt
  opens_for key slot.Done spelled = tt

  -- a key that the input isn't about is not asked for
  unasked_slot : (key : Key) (s : Slot S) → concerns node input key ≡ false → slot_opens node input key s ≡ []
  unasked_slot key (slot.Pending o) other = go (is_asked node input (numbers_of key o)) refl
    where
      go : (b : Bool) → is_asked node input (numbers_of key o) ≡ b → slot_opens {S = S} node input key (slot.Pending o) ≡ []
      go true t = absurd (true≢false (sym (asked_about node input (numbers_of key o) t) ∙ other))
      go false t = ap (λ b. if b then reported_by node.boot (OpenMsg (numbers_of key o)) ∷ [] else []) t
  unasked_slot key (slot.Live c) other = refl
  unasked_slot key slot.Done other = refl

  pub none_asked : (es : List (Key × Slot S)) → ((k : Key) → concerns node input k ≡ false) → all_opens node input es ≡ []
  none_asked [] none = refl
  none_asked (e ∷ es) none = ap₂ ◌++◌ (unasked_slot e.0 e.1 (none e.0)) (none_asked es none)

  slot_whose : (key : Key) (s : Slot S) → AllByRecursion (HasWireBy (grammar_of node.profile)) (slot_opens node input key s) → AllByRecursion (IsForSubject node input) (map (wire_by (grammar_of node.profile)) (slot_opens node input key s))
  slot_whose key s spelled = go (concerns node input key) refl
    where
      go : (b : Bool) → concerns node input key ≡ b → AllByRecursion (IsForSubject node input) (map (wire_by (grammar_of node.profile)) (slot_opens node input key s))
      go true t = all_weaker (IsFor (grammar_of node.profile) key) (IsForSubject node input) (map (wire_by (grammar_of node.profile)) (slot_opens node input key s)) (λ w a. (key, t, a)) (opens_for key s spelled)
      go false t = subst (λ ps. AllByRecursion (IsForSubject node input) (map (wire_by (grammar_of node.profile)) ps)) (sym (unasked_slot key s t)) tt

  opens_whose : (es : List (Key × Slot S)) → AllByRecursion (HasWireBy (grammar_of node.profile)) (all_opens node input es) → AllByRecursion (IsForSubject node input) (map (wire_by (grammar_of node.profile)) (all_opens node input es))
  opens_whose [] spelled = tt
  opens_whose (e ∷ es) spelled =
      let first = slot_opens node input e.0 e.1 in
      let parts = all_split (HasWireBy (grammar_of node.profile)) first (all_opens node input es) spelled in
      subst (AllByRecursion (IsForSubject node input)) (sym (map-append (wire_by (grammar_of node.profile)) first (all_opens node input es)))
      (all_append (IsForSubject node input) (map (wire_by (grammar_of node.profile)) first) (map (wire_by (grammar_of node.profile)) (all_opens node input es)) (slot_whose e.0 e.1 parts.0) (opens_whose es parts.1))

  -- the Open of a key is that of its slot
  abbrev pub key_opens : Key → Option (Slot S) → List Packet
  key_opens key (Some s) = slot_opens node input key s
  key_opens key None = []

  pub record HasOpens (key : Key) (s : Option (Slot S)) (packets : List Packet) : Type 0 where
    pub wires : of_key (grammar_of node.profile) key (map (wire_by (grammar_of node.profile)) packets) ≡ map (wire_by (grammar_of node.profile)) (key_opens key s)
    pub spelled : AllByRecursion (HasWireBy (grammar_of node.profile)) (key_opens key s)

  pub opens_of_key : (key : Key) (es : List (Key × Slot S)) → IsDistinct key_eq (keys_of es) → AllByRecursion (HasWireBy (grammar_of node.profile)) (all_opens node input es)
      → HasOpens key (lookup (key_eq key) es) (all_opens node input es)
  unfolding IsDistinct
  opens_of_key key [] distinct spelled = record { wires = refl; spelled = tt }
  opens_of_key key (e ∷ es) distinct spelled =
      let parts = all_split (HasWireBy (grammar_of node.profile)) (slot_opens node input e.0 e.1) (all_opens node input es) spelled in
      go (key_eq key e.0) refl parts.0 (opens_of_key key es distinct.1 parts.1)
    where
      first : List Packet
      first = slot_opens node input e.0 e.1

      rest : List Packet
      rest = all_opens node input es

      split : of_key (grammar_of node.profile) key (map (wire_by (grammar_of node.profile)) (all_opens node input (e ∷ es))) ≡ of_key (grammar_of node.profile) key (map (wire_by (grammar_of node.profile)) first) ++ of_key (grammar_of node.profile) key (map (wire_by (grammar_of node.profile)) rest)
      split = ap (of_key (grammar_of node.profile) key) (map-append (wire_by (grammar_of node.profile)) first rest) ∙ of_both (grammar_of node.profile) key (map (wire_by (grammar_of node.profile)) first) (map (wire_by (grammar_of node.profile)) rest)

      go : (b : Bool) → key_eq key e.0 ≡ b → AllByRecursion (HasWireBy (grammar_of node.profile)) first → HasOpens key (lookup (key_eq key) es) rest → HasOpens key (lookup (key_eq key) (e ∷ es)) (all_opens node input (e ∷ es))
      go true t own others =
          let its : key ≡ e.0 = same_key key e.0 t in
          let gone : lookup (key_eq key) es ≡ None = not_found key es (subst (λ k. AllByRecursion (λ y. key_eq k y ≡ false) (keys_of es)) (sym its) distinct.0) in
          let here : key_opens key (lookup (key_eq key) (e ∷ es)) ≡ first =
          ap (λ b. key_opens key (cond b (Some e.1) (lookup (key_eq key) es))) t ∙ ap (λ k. slot_opens node input k e.1) its in
          let mine : of_key (grammar_of node.profile) key (map (wire_by (grammar_of node.profile)) first) ≡ map (wire_by (grammar_of node.profile)) first = subst (λ k. of_key (grammar_of node.profile) k (map (wire_by (grammar_of node.profile)) first) ≡ map (wire_by (grammar_of node.profile)) first) (sym its) (all_its (grammar_of node.profile) e.0 first (opens_for e.0 e.1 own) own) in
          let none : of_key (grammar_of node.profile) key (map (wire_by (grammar_of node.profile)) rest) ≡ [] = others.wires ∙ ap (λ s. map (wire_by (grammar_of node.profile)) (key_opens key s)) gone in record {
            wires = split ∙ (ap₂ ◌++◌ mine none ∙ (append-nil (map (wire_by (grammar_of node.profile)) first) ∙ ap (map (wire_by (grammar_of node.profile))) (sym here)));
            spelled = subst (AllByRecursion (HasWireBy (grammar_of node.profile))) (sym here) own;
          }
      go false t own others =
          let here : key_opens key (lookup (key_eq key) (e ∷ es)) ≡ key_opens key (lookup (key_eq key) es) = ap (λ b. key_opens key (cond b (Some e.1) (lookup (key_eq key) es))) t in
          let none : of_key (grammar_of node.profile) key (map (wire_by (grammar_of node.profile)) first) ≡ [] = none_of (grammar_of node.profile) e.0 key (map (wire_by (grammar_of node.profile)) first) (opens_for e.0 e.1 own) (Rattle.ft_model.proofs.Keys.key_eq_turns key e.0 t) in record {
            wires = split ∙ (ap (λ ws. ws ++ of_key (grammar_of node.profile) key (map (wire_by (grammar_of node.profile)) rest)) none ∙ (others.wires ∙ ap (map (wire_by (grammar_of node.profile))) (sym here)));
            spelled = subst (AllByRecursion (HasWireBy (grammar_of node.profile))) (sym here) others.spelled;
          }

module _ {S : Type 0} (service : Machine S) (node : Node) (input : Input) where
  noisy : (key : Key) → concerns node input key ≡ false → coming_to node key input ≡ Noise_comes
  noisy key other = ap (λ b. if b then input else Noise_comes) other

  pub comes : (key : Key) → concerns node input key ≡ true → coming_to node key input ≡ input
  comes key about = ap (λ b. if b then input else Noise_comes) about

  -- a key that the input isn't about rests
  quiet_opens : (place : Option Place) → flat_map (opens_at node Noise_comes) (option_to_list place) ≡ []
  quiet_opens (Some (Opens n timestamping)) = refl
  quiet_opens (Some (Lives p)) = refl
  quiet_opens (Some (Ended k)) = refl
  quiet_opens None = refl

  rests : (opened : ℕ) (place : Option Place) → ServingTurn service node Noise_comes opened (option_to_list place) (option_to_list place) []
  rests opened (Some q) = record {
    went = q ∷ [];
    by_places = [];
    all_go = (q ∷ [], [], [], [], refl, refl, (refl, refl), (refl, refl));
    places = refl;
    packets = sym (quiet_opens (Some q));
  }
  rests opened None = record { went = []; by_places = []; all_go = (refl, refl); places = refl; packets = refl }

  pub rests_key : (key : Key) (place : Option Place) (was now : Serving S) (reported : List Wire) (opened : ℕ) → was.next.0 ≡ initial_number node.isn opened
      → concerns node input key ≡ false → StandsFor service node key (slot_of key was) place → slot_of key now ≡ slot_of key was → of_key (grammar_of node.profile) key reported ≡ []
      → KeyGoes service node input key place was now reported
  rests_key key place was now reported opened number other st same none = record {
    opened = opened;
    after = place;
    packets = [];
    number = number;
    stands = subst (λ s. StandsFor service node key s place) (sym same) st;
    turn = inl (subst (λ i. ServingTurn service node i opened (option_to_list place) (option_to_list place) []) (sym (noisy key other)) (rests opened place));
    wires = none;
    spelled = tt;
  }

  -- the Open of a key's slot is that of its place
  opens_there : (key : Key) (s : Option (Slot S)) (place : Option Place) → StandsFor service node key s place
      → key_opens node input key s ≡ flat_map (opens_at node input) (option_to_list place)
  opens_there key (Some s) (Some q) st = sym (slot_is service node input key s q st) ∙ sym (append-nil (opens_at node input q))
  opens_there key None None st = refl
  opens_there key (Some s) None st = absurd st
  opens_there key None (Some q) st = absurd st

  -- a key's turn, from that of its place and the Opens after it
  place_turn : (key : Key) (place : Option Place) (slot : Option (Slot S)) (reported : List Wire) (opened : ℕ) → (m : KeyMeets service node input key place slot reported)
      → newcomers node input opened (option_to_list place) ≡ [] → refusals node input (option_to_list place) ≡ []
      → ServingTurn service node input opened (option_to_list place) (option_to_list m.after) (m.packets ++ key_opens node input key slot)
  place_turn key (Some q) slot reported opened m fresh refused = record {
    went = option_to_list m.after;
    by_places = m.packets;
    all_go = (option_to_list m.after, [], m.packets, [], sym (append-nil (option_to_list m.after)), sym (append-nil m.packets), m.turn, (refl, refl));
    places = sym (append-nil (option_to_list m.after)) ∙ ap (λ ps. option_to_list m.after ++ ps) (sym fresh);
    packets = ap (λ ps. m.packets ++ ps) (opens_there key slot m.after m.stands ∙ ap (λ ps. ps ++ flat_map (opens_at node input) (option_to_list m.after)) (sym refused));
  }
  place_turn key None slot reported opened m fresh refused = record {
    went = [];
    by_places = [];
    all_go = (refl, refl);
    places = ap option_to_list m.turn.0 ∙ sym fresh;
    packets = ap (λ ps. ps ++ key_opens node input key slot) m.turn.1 ∙ (opens_there key slot m.after m.stands ∙ ap (λ ps. ps ++ flat_map (opens_at node input) (option_to_list m.after)) (sym refused));
  }

  -- a turn in which no opening is made and no unknown client refused: the slots go, and then pending openings are asked for
  pub served_alone : (was now : Serving S) (old mid new : List Wire) (opened : ℕ) → was.next.0 ≡ initial_number node.isn opened
      → ((key : Key) → HasOpens node input key (slot_of key now) (all_opens node input now.slots.entries))
      → ((key : Key) (place : Option Place) → StandsFor service node key (slot_of key was) place → concerns node input key ≡ true
      → (newcomers node input opened (option_to_list place) ≡ []) × (refusals node input (option_to_list place) ≡ []))
      → SlotsAlone service node input was.slots.entries now.slots.entries old mid → ArePut (grammar_of node.profile) (all_opens node input now.slots.entries) mid new
      → ServesAlone service node input was now old new
  served_alone was now old mid new opened number owns calm s asked = record {
    reported = reported;
    put = asked.wires ∙ (ap (λ ws. ws ++ map (wire_by (grammar_of node.profile)) opens) s.put ∙ append_assoc old s.reported (map (wire_by (grammar_of node.profile)) opens));
    others = record { slots = s.slots; whose = whose };
    alone = λ key place st near. go key place st near (concerns node input key) refl;
  }
    where
      opens : List Packet
      opens = all_opens node input now.slots.entries

      reported : List Wire
      reported = s.reported ++ map (wire_by (grammar_of node.profile)) opens

      whose : AllByRecursion (IsForSubject node input) reported
      whose = all_append (IsForSubject node input) s.reported (map (wire_by (grammar_of node.profile)) opens) s.whose (opens_whose node input now.slots.entries asked.spelled)

      go : (key : Key) (place : Option Place) → StandsFor service node key (slot_of key was) place → IsNearFor node.server input place → (b : Bool) → concerns node input key ≡ b
          → KeyGoes service node input key place was now reported
      go key place st near false t = rests_key key place was now reported opened number t st (s.slots key t) (silent_whose node input key reported t whose)
      go key place st near true t =
          let m = s.turn key place st near in
          let calms = calm key place st t in
          let own = owns key in record {
            opened = opened;
            after = m.after;
            packets = m.packets ++ key_opens node input key (slot_of key now);
            number = number;
            stands = m.stands;
            turn = inl (subst (λ i. ServingTurn service node i opened (option_to_list place) (option_to_list m.after) (m.packets ++ key_opens node input key (slot_of key now))) (sym (comes key t))
                (place_turn key place (slot_of key now) s.reported opened m calms.0 calms.1));
            wires = of_both (grammar_of node.profile) key s.reported (map (wire_by (grammar_of node.profile)) opens) ∙ (ap₂ ◌++◌ m.wires own.wires ∙ sym (map-append (wire_by (grammar_of node.profile)) m.packets (key_opens node input key (slot_of key now))));
            spelled = all_append (HasWireBy (grammar_of node.profile)) m.packets (key_opens node input key (slot_of key now)) m.spelled own.spelled;
          }

module _ {S : Type 0} (service : Machine S) (node : Node) where
  -- a message asks for no opening
  no_asks : (message : Message) (es : List (Key × Slot S)) → all_opens node (Message_comes message) es ≡ []
  no_asks message [] = refl
  no_asks message ((k, slot.Pending o) ∷ es) = no_asks message es
  no_asks message ((k, slot.Live c) ∷ es) = no_asks message es
  no_asks message ((k, slot.Done) ∷ es) = no_asks message es

  asks_none : (message : Message) (key : Key) (s : Option (Slot S)) → key_opens node (Message_comes message) key s ≡ []
  asks_none message key (Some (slot.Pending o)) = refl
  asks_none message key (Some (slot.Live c)) = refl
  asks_none message key (Some slot.Done) = refl
  asks_none message key None = refl

  message_asks : (message : Message) (key : Key) (s : Option (Slot S)) (es : List (Key × Slot S)) → HasOpens node (Message_comes message) key s (all_opens node (Message_comes message) es)
  message_asks message key s es = record {
    wires = ap (λ ps. of_key (grammar_of node.profile) key (map (wire_by (grammar_of node.profile)) ps)) (no_asks message es) ∙ ap (map (wire_by (grammar_of node.profile))) (sym (asks_none message key s));
    spelled = subst (AllByRecursion (HasWireBy (grammar_of node.profile))) (sym (asks_none message key s)) tt;
  }

  pub message_alone : (message : Message) (was now : Serving S) (old new : List Wire) (opened : ℕ) → was.next.0 ≡ initial_number node.isn opened
      → SlotsAlone service node (Message_comes message) was.slots.entries now.slots.entries old new → ServesAlone service node (Message_comes message) was now old new
  message_alone message was now old new opened number s =
      served_alone service node (Message_comes message) was now old new new opened number (λ key. message_asks message key (slot_of key now) now.slots.entries)
      (λ key place st about. (refl, refl)) s
      (subst (λ ps. ArePut (grammar_of node.profile) ps new new) (sym (no_asks message now.slots.entries)) (record { wires = sym (append-nil new); spelled = tt }))
