-- A packet at a node that serves, as each key has it: of a client that is known, of one that isn't, and for another server.
use Rattle.std.proofs.Common.{◌≡◌, ◌∙◌, ◌<◌, ◌≤◌, ℕ, Bool, true, false, ◌&&◌, eq-eqb, not, nat_lt, refl, sym, ap, ap₂, subst, true≢false, arith, List, [], ◌∷◌, ◌++◌, map, append_assoc, append-nil, get_or, Option, Some, None, inl, inr, if◌then◌else◌}
use Rattle.std.proofs.lemmas.List.{map-append}
use Rattle.std.specs.List.{AllByRecursion, IsDistinct, flat_map}
use Rattle.std.specs.Bool.{MatchBool}
use Rattle.std.specs.Map.{lookup, keys_of}
use Rattle.std.specs.Option.{option_to_list, is_some}
use Rattle.ft_io.specs.declared.Key.{Key}
use Rattle.ft_io.specs.Key.{key_eq}
use Rattle.seq_arith.specs.Packet.{Segment, has_ack, has_rst, has_syn}
use Rattle.seq_arith.specs.Message.{Numbers}
use Rattle.seq_arith.specs.Message.Body.{OpenMsg}
use Rattle.server_trait.specs.Service.{Machine}
use Rattle.tcp_rules.specs.Profile.{grammar_of}
use Rattle.ft_model.specs.Connection.{reported_by}
use Rattle.ft_model.specs.Network.{Packet, source_of}
use Rattle.ft_model.specs.Network.Packet.{To_client}
use Rattle.ft_model.specs.Node.{Node, Place, is_for, is_known}
use Rattle.ft_model.specs.Node.Place.{Opens}
use Rattle.ft_model.specs.Node.Input.{Packet_comes}
use Rattle.ft_model.specs.Opening.{is_syn, initial_number, numbers_for, timestamping_for}
use Rattle.ft_model.specs.Refusal.{as_listen, rst_at_ack}
use Rattle.ft_model.specs.ServingTurn.{ServingTurn, concerns, is_asked, opens_at, newcomers, refusals}
use Rattle.ft_model.specs.Wire.{Wire, wire_by, HasWireBy}
use Rattle.ft_model.proofs.Lists.{same_key, key_is, all_append, all_weaker}
use Rattle.node_serving.specs.declared.serving.Serving.{Serving}
use Rattle.node_serving.specs.declared.slot.Slot.{Slot}
use Rattle.node_serving.specs.declared.slot.Slot.TheVariants as slot
use Rattle.node_serving.specs.Alone.{StandsFor, IsForSubject, KeyTurn, KeyGoes, SlotsAlone, ServesAlone, coming_to, slot_of}
use Rattle.node_serving.specs.Openings.{ArePut, Opened, Waits, Knocks, all_opens, pending_slots}
use Rattle.node_serving.specs.RefusalPackets.{AreSent}
use Rattle.node_serving.specs.Slots.{numbers_of}
use Rattle.node_serving.specs.Ownership.{of_key, IsFor, IsOnlyFor}
use Rattle.node_serving.proofs.MarkedApart.{open_for, opens_of_key, rests_key, served_alone, comes}
use Rattle.node_serving.proofs.SegmentArrival.{only_its_client, its_client}
use Rattle.node_serving.proofs.Found.{other_last, found_last}
use Rattle.node_serving.proofs.Keyed.{none_of, reported_is, reported_its, refused_for, listen_back}
use Rattle.node_serving.proofs.OneKey.{place_key}

module _ {S : Type 0} (service : Machine S) (node : Node) (segment : Segment) where
  -- one for another server
  pub others_alone : (was : Serving S) (reported : List Wire) (opened : ℕ) → was.next.0 ≡ initial_number node.isn opened → is_for node.server segment ≡ false
      → ServesAlone service node (Packet_comes segment) was was reported reported
  others_alone was reported opened number other = record {
    reported = [];
    put = sym (append-nil reported);
    others = record { slots = λ key e. refl; whose = tt };
    alone = λ key place st near. rests_key service node (Packet_comes segment) key place was was [] opened number (ap (λ b. b && key_eq (source_of segment) key) other) st refl refl;
  }

  -- one of a client that is known
  pub known_alone : (key : Key) (was now : Serving S) (old mid new : List Wire) (opened : ℕ) → was.next.0 ≡ initial_number node.isn opened → source_of segment ≡ key
      → is_some (lookup (key_eq key) was.slots.entries) ≡ true → IsDistinct key_eq (keys_of now.slots.entries)
      → SlotsAlone service node (Packet_comes segment) was.slots.entries now.slots.entries old mid → ArePut (grammar_of node.profile) (all_opens node (Packet_comes segment) now.slots.entries) mid new
      → ServesAlone service node (Packet_comes segment) was now old new
  known_alone key was now old mid new opened number from there distinct s asked =
      served_alone service node (Packet_comes segment) was now old mid new opened number
      (λ k. opens_of_key node (Packet_comes segment) k now.slots.entries distinct asked.spelled) calm s asked
    where
      calm : (k : Key) (place : Option Place) → StandsFor service node k (slot_of k was) place → concerns node (Packet_comes segment) k ≡ true
          → (newcomers node (Packet_comes segment) opened (option_to_list place) ≡ []) × (refusals node (Packet_comes segment) (option_to_list place) ≡ [])
      calm k place st about = go place (slot_of k was) refl st
        where
          its : source_of segment ≡ k
          its = same_key (source_of segment) k (Rattle.std.proofs.lemmas.Bool.and_parts (is_for node.server segment) (key_eq (source_of segment) k) about).1

          go : (q : Option Place) (slot : Option (Slot S)) → slot_of k was ≡ slot → StandsFor service node k slot q
              → (newcomers node (Packet_comes segment) opened (option_to_list q) ≡ []) × (refusals node (Packet_comes segment) (option_to_list q) ≡ [])
          go None None f x =
              absurd (true≢false (sym there ∙ ap is_some (ap (λ y. lookup (key_eq y) was.slots.entries) (sym from ∙ its) ∙ f)))
          go None (Some t) f x = absurd x
          go (Some q) None f x = absurd x
          go (Some q) (Some t) f x =
              let known : is_known (source_of segment) (q ∷ []) ≡ true =
              ap (λ b. is_some (if b then Some q else None)) (ap₂ key_eq (place_key service node k t q x) its ∙ key_is k) in
              let familiar : (is_for node.server segment && not (is_known (source_of segment) (q ∷ []))) ≡ false =
              ap (λ b. is_for node.server segment && not b) known ∙ never (is_for node.server segment) in (
                ap (λ b. if b && is_syn segment && nat_lt (Rattle.ft_model.specs.Node.pending_count (q ∷ [])) 64 then Opens (numbers_for node.profile node.isn opened segment) (timestamping_for node.profile segment) ∷ [] else []) familiar,
                ap (λ b. if b then map To_client (as_listen node.server segment) else []) familiar,
              )
            where
              never : (a : Bool) → (a && false) ≡ false
              never true = refl
              never false = refl

  -- one of a client that isn't
  module _ (key : Key) (from : source_of segment ≡ key) (mine : is_for node.server segment ≡ true) where
    alone_known : is_known (source_of segment) [] ≡ false
    alone_known = refl

    stranger : (is_for node.server segment && not (is_known (source_of segment) [])) ≡ true
    stranger = ap (λ b. b && true) mine

    refused_alone : refusals node (Packet_comes segment) [] ≡ map To_client (as_listen node.server segment)
    refused_alone = ap (λ b. if b then map To_client (as_listen node.server segment) else []) stranger

    -- what a SYN makes at a server that has no key, and what another segment does
    came : (opened : ℕ) → is_syn segment ≡ true → newcomers node (Packet_comes segment) opened [] ≡ Opens (numbers_for node.profile node.isn opened segment) (timestamping_for node.profile segment) ∷ []
    came opened syn = ap₂ (λ x y. if x && y && true then Opens (numbers_for node.profile node.isn opened segment) (timestamping_for node.profile segment) ∷ [] else []) stranger syn

    none_came : (opened : ℕ) → is_syn segment ≡ false → newcomers node (Packet_comes segment) opened [] ≡ []
    none_came opened other = ap₂ (λ x y. if x && y && true then Opens (numbers_for node.profile node.isn opened segment) (timestamping_for node.profile segment) ∷ [] else []) stranger other

    asked : (opened : ℕ) → is_syn segment ≡ true
        → flat_map (opens_at node (Packet_comes segment)) (Opens (numbers_for node.profile node.isn opened segment) (timestamping_for node.profile segment) ∷ []) ≡ reported_by node.boot (OpenMsg (numbers_for node.profile node.isn opened segment)) ∷ []
    asked opened syn = ap (λ b. (if b then reported_by node.boot (OpenMsg (numbers_for node.profile node.isn opened segment)) ∷ [] else []) ++ []) asks
      where
        asks : is_asked node (Packet_comes segment) (numbers_for node.profile node.isn opened segment) ≡ true
        asks = rw (mine, syn, key_is (source_of segment), eq-eqb segment.head.seq segment.head.seq refl) refl

    -- the turn of such a server, at a SYN, ..
    opened_alone : (opened : ℕ) → is_syn segment ≡ true
        → ServingTurn service node (Packet_comes segment) opened [] (Opens (numbers_for node.profile node.isn opened segment) (timestamping_for node.profile segment) ∷ [])
        (map To_client (as_listen node.server segment) ++ reported_by node.boot (OpenMsg (numbers_for node.profile node.isn opened segment)) ∷ [])
    opened_alone opened syn = record {
      went = [];
      by_places = [];
      all_go = (refl, refl);
      places = sym (came opened syn);
      packets = ap₂ ◌++◌ (sym refused_alone) (sym (asked opened syn));
    }

    -- .. and at another segment
    refused_only : (opened : ℕ) → is_syn segment ≡ false → ServingTurn service node (Packet_comes segment) opened [] [] (map To_client (as_listen node.server segment))
    refused_only opened other = record {
      went = [];
      by_places = [];
      all_go = (refl, refl);
      places = sym (none_came opened other);
      packets = sym refused_alone ∙ sym (append-nil (refusals node (Packet_comes segment) []));
    }

    -- .. at which the law leaves no choice
    refused_by : (opened : ℕ) (after : List Place) (sent : List Packet) → is_syn segment ≡ false → ServingTurn service node (Packet_comes segment) opened [] after sent
        → sent ≡ map To_client (as_listen node.server segment)
    refused_by opened after sent other t =
        t.packets ∙ (ap₂ (λ xs ys. xs ++ (refusals node (Packet_comes segment) [] ++ flat_map (opens_at node (Packet_comes segment)) ys)) t.all_go.1 none
        ∙ (append-nil (refusals node (Packet_comes segment) []) ∙ refused_alone))
      where
        none : after ≡ []
        none = t.places ∙ ap₂ ◌++◌ t.all_go.0 (none_came opened other)

    pub answers_stranger : (was now : Serving S) (reported : List Wire) → is_syn segment ≡ false → KeyGoes service node (Packet_comes segment) key None was now reported
        → of_key (grammar_of node.profile) key reported ≡ map (wire_by (grammar_of node.profile)) (map To_client (as_listen node.server segment))
    answers_stranger was now reported other g = g.wires ∙ ap (map (wire_by (grammar_of node.profile))) (go g.turn)
      where
        its : coming_to node key (Packet_comes segment) ≡ Packet_comes segment
        its = comes service node (Packet_comes segment) key (its_client node segment key mine from)

        go : KeyTurn service node (Packet_comes segment) key g.opened (pending_slots was.slots.entries) None g.after g.packets
            → g.packets ≡ map To_client (as_listen node.server segment)
        go (inl t) =
            refused_by g.opened (option_to_list g.after) g.packets other
            (subst (λ i. ServingTurn service node i g.opened [] (option_to_list g.after) g.packets) its t)
        go (inr p) = absurd (true≢false (sym (Rattle.std.proofs.lemmas.Bool.and_parts (concerns node (Packet_comes segment) key) (is_syn segment) p.syn).1 ∙ other))

    -- a SYN has no acknowledgement, so it is never refused
    silent_syn : is_syn segment ≡ true → map To_client (as_listen node.server segment) ≡ []
    silent_syn syn = go (has_syn segment) (has_ack segment) (has_rst segment) syn
      where
        go : (s a r : Bool) → (s && not a && not r) ≡ true → map To_client (if a && not r then rst_at_ack node.server segment ∷ [] else []) ≡ []
        go s false r e = refl
        go true true r e = absurd (true≢false (sym e))
        go false true r e = absurd (true≢false (sym e))

    -- so the law leaves no choice at a SYN either
    opened_by : (opened : ℕ) (after : List Place) (sent : List Packet) → is_syn segment ≡ true → ServingTurn service node (Packet_comes segment) opened [] after sent
        → (after ≡ Opens (numbers_for node.profile node.isn opened segment) (timestamping_for node.profile segment) ∷ []) × (sent ≡ reported_by node.boot (OpenMsg (numbers_for node.profile node.isn opened segment)) ∷ [])
    opened_by opened after sent syn t = (
      one,
      t.packets ∙ (ap₂ (λ xs ys. xs ++ (refusals node (Packet_comes segment) [] ++ flat_map (opens_at node (Packet_comes segment)) ys)) t.all_go.1 one
          ∙ ap₂ ◌++◌ (refused_alone ∙ silent_syn syn) (asked opened syn)),
    )
      where
        one : after ≡ Opens (numbers_for node.profile node.isn opened segment) (timestamping_for node.profile segment) ∷ []
        one = t.places ∙ ap₂ ◌++◌ t.all_go.0 (came opened syn)

    pub opens_newcomer : (opened pending : ℕ) (after : Option Place) (sent : List Packet) → is_syn segment ≡ true → pending < 64
        → KeyTurn service node (Packet_comes segment) key opened pending None after sent
        → (after ≡ Some (Opens (numbers_for node.profile node.isn opened segment) (timestamping_for node.profile segment))) × (sent ≡ reported_by node.boot (OpenMsg (numbers_for node.profile node.isn opened segment)) ∷ [])
    opens_newcomer opened pending after sent syn few (inl t) =
        let by = opened_by opened (option_to_list after) sent syn
        (subst (λ i. ServingTurn service node i opened [] (option_to_list after) sent) (comes service node (Packet_comes segment) key (its_client node segment key mine from)) t) in
        (only after by.0, by.1)
      where
        only : (o : Option Place) → option_to_list o ≡ Opens (numbers_for node.profile node.isn opened segment) (timestamping_for node.profile segment) ∷ [] → o ≡ Some (Opens (numbers_for node.profile node.isn opened segment) (timestamping_for node.profile segment))
        only None e = absurd (no e)
          where
            no : [] ≡ Opens (numbers_for node.profile node.isn opened segment) (timestamping_for node.profile segment) ∷ [] → ⊥
            no e = cc
        only (Some q) e = ap Some (ap (λ xs. get_or xs 0 q) e)
    opens_newcomer opened pending after sent syn few (inr p) = absurd (omega (arith, few, p.full))

    -- what the other keys have of it
    rest_alone : (was now : Serving S) (old new : List Wire) (opened : ℕ) → was.next.0 ≡ initial_number node.isn opened → (put : IsOnlyFor (grammar_of node.profile) key old new)
        → ((k : Key) → key_eq key k ≡ false → slot_of k now ≡ slot_of k was)
        → ((place : Option Place) → StandsFor service node key (slot_of key was) place → KeyGoes service node (Packet_comes segment) key place was now put.reported)
        → ServesAlone service node (Packet_comes segment) was now old new
    rest_alone was now old new opened number put same goes = record {
      reported = put.reported;
      put = put.put;
      others = record {
        slots = λ k e. same k (other_key k e);
        whose = all_weaker (IsFor (grammar_of node.profile) key) (IsForSubject node (Packet_comes segment)) put.reported (λ w a. (key, its_client node segment key mine from, a)) put.alone;
      };
      alone = λ k place st near. go k place st (key_eq key k) refl;
    }
      where
        other_key : (k : Key) → concerns node (Packet_comes segment) k ≡ false → key_eq key k ≡ false
        other_key k e = subst (λ x. key_eq x k ≡ false) from (sym (ap (λ b. b && key_eq (source_of segment) k) mine) ∙ e)

        go : (k : Key) (place : Option Place) → StandsFor service node k (slot_of k was) place → (b : Bool) → key_eq key k ≡ b
            → KeyGoes service node (Packet_comes segment) k place was now put.reported
        go k place st true t =
            let its = same_key key k t in
            subst (λ x. KeyGoes service node (Packet_comes segment) x place was now put.reported) its (goes place (subst (λ x. StandsFor service node x (slot_of x was) place) (sym its) st))
        go k place st false t =
            rests_key service node (Packet_comes segment) k place was now put.reported opened number
            (only_its_client node segment k (subst (λ x. key_eq x k ≡ false) (sym from) t)) st (same k t) (none_of (grammar_of node.profile) key k put.reported put.alone t)

    pub strange_alone : (was now : Serving S) (old mid new : List Wire) (opened : ℕ) → was.next.0 ≡ initial_number node.isn opened → lookup (key_eq key) was.slots.entries ≡ None
        → AreSent (as_listen node.server segment) old mid → Knocks node segment key was.next.0 now.next.0 was.slots.entries now.slots.entries mid new
        → ServesAlone service node (Packet_comes segment) was now old new
    strange_alone was now old mid new opened number gone refused knocks =
        go (is_syn segment) (nat_lt (pending_slots was.slots.entries) 64) refl refl
        (λ b e. subst (λ x. MatchBool x (Opened node segment key was.next.0 now.next.0 was.slots.entries now.slots.entries mid new) (Waits was.next.0 now.next.0 was.slots.entries now.slots.entries mid new)) e knocks)
      where
        rsts : List Packet
        rsts = map To_client (as_listen node.server segment)

        sent : IsOnlyFor (grammar_of node.profile) key old mid
        sent = refused_for (grammar_of node.profile) key (as_listen node.server segment) old mid (listen_back node.server segment key from) refused

        its : coming_to node key (Packet_comes segment) ≡ Packet_comes segment
        its = comes service node (Packet_comes segment) key (its_client node segment key mine from)

        -- no opening is made
        waits : Waits was.next.0 now.next.0 was.slots.entries now.slots.entries mid new
            → KeyTurn service node (Packet_comes segment) key opened (pending_slots was.slots.entries) None None rsts
            → ServesAlone service node (Packet_comes segment) was now old new
        waits w turn = rest_alone was now old new opened number put (λ k t. ap (lookup (key_eq k)) w.slots) (λ place st. at place (subst (λ s. StandsFor service node key s place) gone st))
          where
            put : IsOnlyFor (grammar_of node.profile) key old new
            put = subst (IsOnlyFor (grammar_of node.profile) key old) (sym w.silent) sent

            at : (place : Option Place) → StandsFor service node key None place → KeyGoes service node (Packet_comes segment) key place was now put.reported
            at (Some q) x = absurd x
            at None x = record {
              opened = opened;
              after = None;
              packets = rsts;
              number = number;
              stands = subst (λ s. StandsFor service node key s None) (sym (ap (lookup (key_eq key)) w.slots ∙ gone)) tt;
              turn = turn;
              wires = reported_its (grammar_of node.profile) key put.reported rsts put.alone (reported_is (grammar_of node.profile) old new put.reported rsts put.put (w.silent ∙ (refused.each (grammar_of node.profile)).wires)) (refused.each (grammar_of node.profile)).spelled;
              spelled = (refused.each (grammar_of node.profile)).spelled;
            }

        -- one is
        opens : Opened node segment key was.next.0 now.next.0 was.slots.entries now.slots.entries mid new → is_syn segment ≡ true → ServesAlone service node (Packet_comes segment) was now old new
        opens o syn = rest_alone was now old new opened number put (λ k t. ap (lookup (key_eq k)) o.slots ∙ other_last key k t was.slots.entries (slot.Pending o.opening))
            (λ place st. at place (subst (λ s. StandsFor service node key s place) gone st))
          where
            asks : Packet
            asks = reported_by node.boot (OpenMsg (numbers_of key o.opening))

            numbers : numbers_of key o.opening ≡ numbers_for node.profile node.isn opened segment
            numbers = o.numbers ∙ ap (λ n. let x : Numbers = record { key = source_of segment; cisn = segment.head.seq; sisn = n; mss = Rattle.seq_arith.specs.Packet.text_size segment.head.mss (Rattle.tcp_rules.specs.Timestamping.timestamps_sent (timestamping_for node.profile segment)) } in x) number

            put : IsOnlyFor (grammar_of node.profile) key old new
            put = record {
              reported = sent.reported ++ map (wire_by (grammar_of node.profile)) (asks ∷ []);
              put = o.asked.wires ∙ (ap (λ ws. ws ++ map (wire_by (grammar_of node.profile)) (asks ∷ [])) sent.put ∙ append_assoc old sent.reported (map (wire_by (grammar_of node.profile)) (asks ∷ [])));
              alone = all_append (IsFor (grammar_of node.profile) key) sent.reported (map (wire_by (grammar_of node.profile)) (asks ∷ [])) sent.alone (open_for (grammar_of node.profile) node.boot (numbers_of key o.opening) key refl o.asked.spelled.0, tt);
            }

            packets : List Packet
            packets = rsts ++ asks ∷ []

            spelled : AllByRecursion (HasWireBy (grammar_of node.profile)) packets
            spelled = all_append (HasWireBy (grammar_of node.profile)) rsts (asks ∷ []) (refused.each (grammar_of node.profile)).spelled o.asked.spelled

            wires : new ≡ old ++ map (wire_by (grammar_of node.profile)) packets
            wires = o.asked.wires ∙ (ap (λ ws. ws ++ map (wire_by (grammar_of node.profile)) (asks ∷ [])) (refused.each (grammar_of node.profile)).wires
                ∙ (append_assoc old (map (wire_by (grammar_of node.profile)) rsts) (map (wire_by (grammar_of node.profile)) (asks ∷ [])) ∙ ap (λ ws. old ++ ws) (sym (map-append (wire_by (grammar_of node.profile)) rsts (asks ∷ [])))))

            at : (place : Option Place) → StandsFor service node key None place → KeyGoes service node (Packet_comes segment) key place was now put.reported
            at (Some q) x = absurd x
            at None x = record {
              opened = opened;
              after = Some (Opens (numbers_for node.profile node.isn opened segment) (timestamping_for node.profile segment));
              packets = packets;
              number = number;
              stands = subst (λ s. StandsFor service node key s (Some (Opens (numbers_for node.profile node.isn opened segment) (timestamping_for node.profile segment))))
                  (sym (ap (lookup (key_eq key)) o.slots ∙ found_last key was.slots.entries (slot.Pending o.opening) gone)) (sym numbers, sym o.timestamping);
              turn = inl (subst (λ i. ServingTurn service node i opened [] (Opens (numbers_for node.profile node.isn opened segment) (timestamping_for node.profile segment) ∷ []) packets) (sym its)
                  (subst (λ n. ServingTurn service node (Packet_comes segment) opened [] (Opens (numbers_for node.profile node.isn opened segment) (timestamping_for node.profile segment) ∷ []) (rsts ++ reported_by node.boot (OpenMsg n) ∷ [])) (sym numbers)
                  (opened_alone opened syn)));
              wires = reported_its (grammar_of node.profile) key put.reported packets put.alone (reported_is (grammar_of node.profile) old new put.reported packets put.put wires) spelled;
              spelled = spelled;
            }

        go : (syn few : Bool) → is_syn segment ≡ syn → nat_lt (pending_slots was.slots.entries) 64 ≡ few
            → ((b : Bool) → (is_syn segment && nat_lt (pending_slots was.slots.entries) 64) ≡ b
            → MatchBool b (Opened node segment key was.next.0 now.next.0 was.slots.entries now.slots.entries mid new) (Waits was.next.0 now.next.0 was.slots.entries now.slots.entries mid new))
            → ServesAlone service node (Packet_comes segment) was now old new
        go true true s f h = opens (h true (ap₂ ◌&&◌ s f)) s
        go false few s f h = waits (h false (ap₂ ◌&&◌ s f))
            (inl (subst (λ i. ServingTurn service node i opened [] [] rsts) (sym its) (refused_only opened s)))
        go true false s f h = waits (h false (ap₂ ◌&&◌ s f))
            (inr (record { syn = ap₂ ◌&&◌ (its_client node segment key mine from) s; full = many (pending_slots was.slots.entries) f; unknown = refl; still = refl; silent = silent_syn s }))
          where
            many : (n : ℕ) → nat_lt n 64 ≡ false → 64 ≤ n
            many n e = grind (arith, e)
