-- The turns of all slots, from the turn of each.
use Rattle.std.proofs.Common.{◌≡◌, ◌∙◌, ℕ, zero, suc, ◌+◌, ◌<◌, ◌≤◌, refl, sym, ap, subst, arith, List, [], ◌∷◌, ◌++◌, map, length, append_assoc, length-append, append-nil, slice_get, Some}
use Rattle.std.proofs.lemmas.List.{map-append}
use Rattle.indexmap.specs.IndexMap.{set_value_at}
use Rattle.ft_io.specs.declared.Key.{Key}
use Rattle.server_trait.specs.Service.{Machine}
use Rattle.tcp_rules.specs.Profile.{grammar_of}
use Rattle.ft_model.specs.Network.{Packet}
use Rattle.ft_model.specs.Point.{Point}
use Rattle.ft_model.specs.News.News.{Ticks}
use Rattle.ft_model.specs.Node.{Node, Place, Input}
use Rattle.ft_model.specs.Node.Place.{Opens, Lives, Ended}
use Rattle.ft_model.specs.Node.Input.{Tick_comes}
use Rattle.ft_model.specs.ServingTurn.{PlaceTurn, AllGo}
use Rattle.wrapped_conn.specs.ConnState.{ConnState}
use Rattle.node_serving.specs.declared.slot.Slot.{Slot}
use Rattle.node_serving.specs.declared.slot.Slot.TheVariants as slot
use Rattle.ft_model.proofs.Lists.{all_append}
use Rattle.ft_model.specs.Wire.{Wire, wire_by, HasWireBy}
use Rattle.node_serving.specs.Conn.{IsOursAt, ConnGoes}
use Rattle.node_serving.specs.Slots.{SlotStands, AllStand, SlotGoes, AllSlotsGo, FirstGo}

-- a live connection's tick is its slot's
pub live_ticks : {S : Type 0} (service : Machine S) (node : Node) (key : Key) (place : Place) (c now : ConnState S) (old new : List Wire)
    → SlotStands service node key (slot.Live c) place
    → ((p : Point) → p.key ≡ key → IsOursAt service node.server node.boot c p → ConnGoes (grammar_of node.profile) service node.server node.boot Ticks p now old new)
    → SlotGoes service node Tick_comes key place (slot.Live now) old new
live_ticks service node key (Lives p) c now old new st h =
    let g = h p st.0 st.1 in record {
      after = Lives g.after;
      packets = g.packets;
      stands = (g.key ∙ st.0, g.stands);
      turn = (g.after, refl, g.turn);
      wires = g.wires;
      spelled = g.spelled;
    }
live_ticks service node key (Opens n timestamping) c now old new st h = absurd st
live_ticks service node key (Ended k) c now old new st h = absurd st

module _ {S : Type 0} (service : Machine S) (node : Node) (input : Input) where
  -- the place at which the slot after these stands
  pub at_slot : (es : List (Key × Slot S)) (went left : List Place) (i : ℕ) → AllStand service node es (went ++ left) → length went ≡ i → i < length es
      → (place : Place) × (others : List Place) × (left ≡ place ∷ others)
      × ((e : Key × Slot S) → slice_get es i ≡ Some e → SlotStands service node e.0 e.1 place)
  at_slot [] went left i st e lt = absurd (omega arith)
  at_slot (x ∷ es) [] [] i st e lt = absurd st
  at_slot (x ∷ es) [] (q ∷ qs) zero st e lt = (q, qs, refl, λ d is. subst (λ o. SlotStands service node o.0 o.1 q) (some_is is) st.0)
    where
      some_is : {X : Type 0} {a b : X} → Some a ≡ Some b → a ≡ b
      some_is {X} {a} {b} h = ap (λ o. Rattle.std.specs.Option.unwrap_or o a) h
  at_slot (x ∷ es) [] (q ∷ qs) (suc i) st e lt = absurd (omega arith)
  at_slot (x ∷ es) (p ∷ ps) left zero st e lt = absurd (omega arith)
  at_slot (x ∷ es) (p ∷ ps) left (suc i) st e lt = at_slot es ps left i st.1 (omega arith) (omega arith)

  -- that slot stands elsewhere, and the others as before
  pub put_slot : (es : List (Key × Slot S)) (went others : List Place) (place after : Place) (i : ℕ) (now : Slot S) → AllStand service node es (went ++ place ∷ others) → length went ≡ i
      → ((e : Key × Slot S) → slice_get es i ≡ Some e → SlotStands service node e.0 now after)
      → AllStand service node (set_value_at es i now) ((went ++ after ∷ []) ++ others)
  put_slot [] [] others place after i now st e h = absurd st
  put_slot [] (p ∷ ps) others place after i now st e h = absurd st
  put_slot (x ∷ es) [] others place after zero now st e h = (h x refl, st.1)
  put_slot (x ∷ es) [] others place after (suc i) now st e h = absurd (omega arith)
  put_slot (x ∷ es) (p ∷ ps) others place after zero now st e h = absurd (omega arith)
  put_slot (x ∷ es) (p ∷ ps) others place after (suc i) now st e h = (st.0, put_slot es ps others place after i now st.1 (omega arith) h)

  -- one place more
  pub proceed : (Goes : Place → List Place → List Packet → Type 0) (done went : List Place) (packets more : List Packet) (place after : Place) → AllGo Goes done went packets
      → Goes place (after ∷ []) more → AllGo Goes (done ++ place ∷ []) (went ++ after ∷ []) (packets ++ more)
  proceed Goes [] went packets more place after go g =
      (after ∷ [], [], more, [], ap (λ xs. xs ++ after ∷ []) go.0, ap (λ xs. xs ++ more) go.1 ∙ sym (append-nil more), g, (refl, refl))
  proceed Goes (d ∷ done) went packets more place after (now, later, first, others, w, p, g, rest) h = (
    now,
    later ++ after ∷ [],
    first,
    others ++ more,
    ap (λ xs. xs ++ after ∷ []) w ∙ append_assoc now later (after ∷ []),
    ap (λ xs. xs ++ more) p ∙ append_assoc first others more,
    g,
    proceed Goes done later others more place after rest h,
  )

  pub first_more : (places : List Place) (i : ℕ) (es : List (Key × Slot S)) (old mid new : List Wire) (now : Slot S) → i < length es
      → FirstGo service node input places i es old mid
      → ((key : Key) (was : Slot S) (place : Place) → slice_get es i ≡ Some (key, was) → SlotStands service node key was place → SlotGoes service node input key place now mid new)
      → FirstGo service node input places (i + 1) (set_value_at es i now) old new
  first_more places i es old mid new now lt f h =
      let a = at_slot es f.went f.left i f.stands f.at lt in
      go (a.0) (a.1) a.2 (at_entry es i lt) a.3
    where
      at_entry : (xs : List (Key × Slot S)) (k : ℕ) → k < length xs → (e : Key × Slot S) × (slice_get xs k ≡ Some e)
      at_entry [] k l = absurd (omega arith)
      at_entry (x ∷ xs) zero l = (x, refl)
      at_entry (x ∷ xs) (suc k) l = at_entry xs k (omega arith)

      go : (place : Place) (others : List Place) → f.left ≡ place ∷ others → (e : Key × Slot S) × (slice_get es i ≡ Some e)
          → ((e : Key × Slot S) → slice_get es i ≡ Some e → SlotStands service node e.0 e.1 place)
          → FirstGo service node input places (i + 1) (set_value_at es i now) old new
      go place others left (e, is) st =
          let s = h e.0 e.1 place is (st e is) in
          let stood = subst (λ l. AllStand service node es (f.went ++ l)) left f.stands in record {
            done = f.done ++ place ∷ [];
            left = others;
            went = f.went ++ s.after ∷ [];
            packets = f.packets ++ s.packets;
            split = f.split ∙ (ap (λ l. f.done ++ l) left ∙ sym (append_assoc f.done (place ∷ []) others));
            at = length-append f.went (s.after ∷ []) ∙ ap (λ n. n + 1) f.at;
            stands = put_slot es f.went others place s.after i now stood f.at (λ d at. subst (λ (o : Key × Slot S). SlotStands service node o.0 now s.after) (same is at) s.stands);
            go = proceed (PlaceTurn service node input) f.done f.went f.packets s.packets place s.after f.go s.turn;
            wires = s.wires ∙ (ap (λ xs. xs ++ map (wire_by (grammar_of node.profile)) s.packets) f.wires
                ∙ (append_assoc old (map (wire_by (grammar_of node.profile)) f.packets) (map (wire_by (grammar_of node.profile)) s.packets) ∙ ap (λ xs. old ++ xs) (sym (map-append (wire_by (grammar_of node.profile)) f.packets s.packets))));
            spelled = all_append (HasWireBy (grammar_of node.profile)) f.packets s.packets f.spelled s.spelled;
          }
        where
          same : {d e : Key × Slot S} → slice_get es i ≡ Some e → slice_get es i ≡ Some d → e ≡ d
          same {d} {e} p q = ap (λ o. Rattle.std.specs.Option.unwrap_or o e) (sym p ∙ q)

  pub first_all : (places : List Place) (i : ℕ) (es : List (Key × Slot S)) (old new : List Wire) → length es ≤ i → i ≤ length es → FirstGo service node input places i es old new
      → AllSlotsGo service node input places es old new
  first_all places i es old new past within f =
      let none = no_more es f.went f.left f.stands (f.at ∙ omega arith) in record {
        after = f.went;
        packets = f.packets;
        stands = subst (λ l. AllStand service node es l) (ap (λ l. f.went ++ l) none ∙ append-nil f.went) f.stands;
        go = subst (λ l. AllGo (PlaceTurn service node input) l f.went f.packets) (sym (f.split ∙ (ap (λ l. f.done ++ l) none ∙ append-nil f.done))) f.go;
        wires = f.wires;
        spelled = f.spelled;
      }
    where
      no_more : (xs : List (Key × Slot S)) (went left : List Place) → AllStand service node xs (went ++ left) → length went ≡ length xs → left ≡ []
      no_more [] [] [] st e = refl
      no_more [] [] (q ∷ qs) st e = absurd st
      no_more [] (p ∷ ps) left st e = absurd st
      no_more (x ∷ xs) [] left st e = absurd (omega arith)
      no_more (x ∷ xs) (p ∷ ps) left st e = no_more xs ps left st.1 (omega arith)

-- the value at a place of the entries
pub value_at : {K X : Type 0} (es : List (K × X)) (i : ℕ) (key : K) (was now : X) → slice_get es i ≡ Some (key, was) → slice_get (map (λ e. e.1) es) i ≡ Some now → was ≡ now
value_at [] i key was now at is = ap (λ o. Rattle.std.specs.Option.unwrap_or (Rattle.std.specs.Option.option_map (λ e. e.1) o) now) (sym at)
value_at (e ∷ es) zero key was now at is =
    let same : e ≡ (key, was) = ap (λ o. Rattle.std.specs.Option.unwrap_or o e) at in
    let here : e.1 ≡ now = ap (λ o. Rattle.std.specs.Option.unwrap_or o now) is in
    sym (ap (λ x. x.1) same) ∙ here
value_at (e ∷ es) (suc i) key was now at is = value_at es i key was now at is

-- the key at a place of the entries
pub key_is_at : {K X : Type 0} (es : List (K × X)) (i : ℕ) (key now : K) (was : X) → slice_get es i ≡ Some (key, was) → Rattle.std.specs.Option.option_map (λ e. e.0) (slice_get es i) ≡ Some now → key ≡ now
key_is_at es i key now was at is = ap (λ o. Rattle.std.specs.Option.unwrap_or o now) (sym (ap (Rattle.std.specs.Option.option_map (λ e. e.0)) at) ∙ is)
