-- A tick of a node that marks: the outstanding mark of each live connection goes out again among the packets of its place.
use Rattle.std.proofs.Common.{◌≡◌, ◌∙◌, ℕ, zero, suc, ◌+◌, ◌<◌, ◌≤◌, Bool, true, false, refl, sym, ap, subst, arith, Option, Some, None, List, [], ◌∷◌, ◌++◌, map, filter, length, append_assoc, length-append, append-nil, slice_get}
use Rattle.std.specs.List.{AllByRecursion, flat_map}
use Rattle.indexmap.specs.IndexMap.{set_value_at}
use Rattle.ft_io.specs.declared.Key.{Key}
use Rattle.ft_io.specs.Key.{key_eq}
use Rattle.seq_arith.specs.declared.kinds.Grammar.{Grammar}
use Rattle.tcp_rules.specs.Profile.{grammar_of}
use Rattle.ft_model.specs.Connection.{ConnectionTurn}
use Rattle.ft_model.specs.Network.{Packet}
use Rattle.ft_model.specs.News.News.{Ticks}
use Rattle.ft_model.specs.Node.{Node, Place, Stage as law_stage, key_of, place_at}
use Rattle.ft_model.specs.Node.Place.{Opens, Lives, Ended}
use Rattle.ft_model.specs.Node.Input.{Tick_comes}
use Rattle.ft_model.specs.Opening.{initial_number}
use Rattle.ft_model.specs.Point.{Point}
use Rattle.ft_model.specs.ServingTurn.{PlaceTurn, Stays, LivesOn, opens_at}
use Rattle.ft_model.specs.Wire.{Wire, wire_by, HasWireBy}
use Rattle.ft_model.proofs.Lists.{all_append, all_find, found_passes, same_key, none_is_some}
use Rattle.mark_laws.specs.Marking.{Marking, Outgoing, IsSettled, is_due, with_new, new_marks, outstanding_in, with_marks, marks_out}
use Rattle.mark_laws.specs.Marking.Outgoing.{Plain}
use Rattle.mark_laws.specs.MarkedNode.{Marker, GoesMarked, AllGoMarked, marks_at, marking_then, is_done}
use Rattle.conn_marks.specs.KeyMarks.{KeyMarks}
use Rattle.conn_marks.specs.MarkSends.{SendsMarks}
use Rattle.conn_marks.specs.Settled.{Keeps, IsSettledPoint, IsSettledPlace, AllSettled}
use Rattle.conn_marks.proofs.HeldBytes.{HasBytes, turn_bytes}
use Rattle.conn_marks.proofs.MarkWires.{put_out, plain_out, out_on}
use Rattle.conn_marks.proofs.Serving.{new_none, turn_key}
use Rattle.conn_marks.proofs.Settling.{settles, same_due, new_same}
use Rattle.wrapped_conn.specs.ConnState.{ConnState}
use Rattle.node_serving.specs.declared.identity.Identity.{Identity}
use Rattle.node_serving.specs.declared.serving.Serving.{Serving}
use Rattle.node_serving.specs.declared.slot.Slot.{Slot}
use Rattle.node_serving.specs.declared.slot.Slot.TheVariants as slot
use Rattle.node_serving.specs.Identity.{node_of, grammar_in}
use Rattle.node_serving.specs.Loan.{conn_in}
use Rattle.node_serving.specs.MarkedServing.{SlotTicks, AllTick, FirstTick, ServingGoesMarked}
use Rattle.node_serving.specs.Markers.{node_at}
use Rattle.node_serving.specs.Openings.{ArePut, all_opens}
use Rattle.node_serving.specs.Slots.{SlotStands, AllStand, SlotGoes}
use Rattle.node_serving.proofs.AllSlots.{at_slot, put_slot}
use Rattle.node_serving.proofs.Opens.{opens_are}

-- a tick makes no mark due
abbrev pub TickLaw : {S : Type 0} → Marker S → Node → Type 0
TickLaw by node =
    (p q : Point) (m : Marking) (packets : List Packet) → IsSettled by.service by.every m p → ConnectionTurn by.service node.server node.boot Ticks p q packets
    → m ≡ with_new by.service by.writing by.every q m

-- what is sent of the marks of a slot at a tick
abbrev pub SendsAgain : {S : Type 0} → Grammar → (boot : ℕ) → Key → (from : ℕ) → Slot S → Marking → (old new : List Wire) → Type 0
SendsAgain grammar boot key from (slot.Live c) m old new = SendsMarks grammar boot key from (outstanding_in m) old new
SendsAgain grammar boot key from _ m old new = new ≡ old

module _ {S : Type 0} (by : Marker S) (node : Node) (marking : Key → Marking) where
  -- one slot
  live_ticks_on : (key : Key) (p q : Point) (now : Slot S) (packets : List Packet) (old mid new : List Wire) → TickLaw by node → SlotStands by.service node key now (Lives q)
      → ConnectionTurn by.service node.server node.boot Ticks p q packets → q.key ≡ p.key → IsSettledPoint by (marking p.key) p → mid ≡ old ++ map (wire_by (grammar_of node.profile)) packets → AllByRecursion (HasWireBy (grammar_of node.profile)) packets
      → SendsAgain (grammar_of node.profile) node.boot key (length old) now (marking key) mid new → SlotTicks by node marking key (Lives p) now old new
  live_ticks_on key p q (slot.Pending o) packets old mid new law st t same s wires spelled sends = absurd st
  live_ticks_on key p q slot.Done packets old mid new law st t same s wires spelled sends = absurd st
  live_ticks_on key p q (slot.Live c) packets old mid new law st t same s wires spelled sends =
      let m : Marking = marking q.key in
      let m_is : marking p.key ≡ m = ap marking (sym same) in
      let still : m ≡ with_new by.service by.writing by.every q m = law p q m packets (subst (λ x. IsSettled by.service by.every x p) m_is s.settled) t in
      let none : new_marks by.service by.writing by.every m q ≡ [] = new_none by m q (same_due by m q still) in
      let b : HasBytes q = turn_bytes by.service node.server node.boot Ticks p q packets tt (record { taken = s.taken; held = s.held }) t in
      let ms : marks_at by node.boot true marking (Lives q) ++ [] ≡ marks_out node.boot q (outstanding_in m) =
      append-nil (marks_at by node.boot true marking (Lives q)) ∙ ap (marks_out node.boot q) (ap (λ l. outstanding_in m ++ l) none ∙ append-nil (outstanding_in m)) in
      let key_is : q.key ≡ key = st.0 in
      record {
        after = Lives q;
        sent = with_marks (length (filter is_done packets)) (marks_out node.boot q (outstanding_in m)) packets;
        stands = st;
        goes = record { packets = packets; goes = (q, refl, t); sent_are = ap (λ l. with_marks (length (filter is_done packets)) l packets) (sym ms) };
        settled = record { taken = b.taken; held = b.held; settled = subst (λ x. IsSettled by.service by.every x q) (sym still) (settles by node.server node.boot Ticks p q m packets t) };
        out = put_out (grammar_of node.profile) node.boot key q (outstanding_in m) packets old mid new key_is wires spelled
            (subst (λ k. SendsMarks (grammar_of node.profile) node.boot key (length old) (outstanding_in (marking k)) mid new) (sym key_is) sends);
      }

  rest_ticks : (key : Key) (place : Place) (now : Slot S) (old mid new : List Wire) → marks_at by node.boot true marking place ≡ [] → IsSettledPlace by marking place → SlotStands by.service node key now place
      → PlaceTurn by.service node Tick_comes place (place ∷ []) [] → mid ≡ old ++ [] → new ≡ mid → SlotTicks by node marking key place now old new
  rest_ticks key place now old mid new none s st t wires same = record {
    after = place;
    sent = [];
    stands = st;
    goes = record { packets = []; goes = t; sent_are = sym (append-nil _ ∙ (append-nil (marks_at by node.boot true marking place) ∙ none)) };
    settled = s;
    out = record { wires = same ∙ wires; spelled = tt };
  }

  pub slot_ticks : (key : Key) (place : Place) (now : Slot S) (old mid new : List Wire) → TickLaw by node → IsSettledPlace by marking place → SlotGoes by.service node Tick_comes key place now old mid
      → SendsAgain (grammar_of node.profile) node.boot key (length old) now (marking key) mid new → SlotTicks by node marking key place now old new
  slot_ticks key (Lives p) now old mid new law s g sends = go g.after g.turn g.stands
    where
      first : Place → List Place → Place
      first other [] = other
      first other (x ∷ xs) = x

      go : (after : Place) → LivesOn by.service node Ticks p (after ∷ []) g.packets → SlotStands by.service node key now after → SlotTicks by node marking key (Lives p) now old new
      go after (q, e, t) st =
          let is : after ≡ Lives q = ap (first after) e in
          live_ticks_on key p q now g.packets old mid new law (subst (SlotStands by.service node key now) is st) t
          (turn_key by node Ticks p q g.packets t) s g.wires g.spelled sends
  slot_ticks key (Opens n timestamping) now old mid new law s g sends = go now g.after g.turn g.stands sends
    where
      first : Place → List Place → Place
      first other [] = other
      first other (x ∷ xs) = x

      go : (now : Slot S) (after : Place) → Stays (Opens n timestamping) (after ∷ []) g.packets → SlotStands by.service node key now after → SendsAgain (grammar_of node.profile) node.boot key (length old) now (marking key) mid new
          → SlotTicks by node marking key (Opens n timestamping) now old new
      go now after (e, none) st sends = unsent now (subst (SlotStands by.service node key now) (ap (first after) e) st) sends
        where
          unsent : (now : Slot S) → SlotStands by.service node key now (Opens n timestamping) → SendsAgain (grammar_of node.profile) node.boot key (length old) now (marking key) mid new → SlotTicks by node marking key (Opens n timestamping) now old new
          unsent (slot.Pending o) st same = rest_ticks key (Opens n timestamping) (slot.Pending o) old mid new refl tt st (refl, refl) (g.wires ∙ ap (λ l. old ++ map (wire_by (grammar_of node.profile)) l) none) same
          unsent (slot.Live c) st same = absurd st
          unsent slot.Done st same = absurd st
  slot_ticks key (Ended k) now old mid new law s g sends = go now g.after g.turn g.stands sends
    where
      first : Place → List Place → Place
      first other [] = other
      first other (x ∷ xs) = x

      go : (now : Slot S) (after : Place) → Stays (Ended k) (after ∷ []) g.packets → SlotStands by.service node key now after → SendsAgain (grammar_of node.profile) node.boot key (length old) now (marking key) mid new
          → SlotTicks by node marking key (Ended k) now old new
      go now after (e, none) st sends = unsent now (subst (SlotStands by.service node key now) (ap (first after) e) st) sends
        where
          unsent : (now : Slot S) → SlotStands by.service node key now (Ended k) → SendsAgain (grammar_of node.profile) node.boot key (length old) now (marking key) mid new → SlotTicks by node marking key (Ended k) now old new
          unsent slot.Done st same = rest_ticks key (Ended k) slot.Done old mid new refl tt st (refl, refl) (g.wires ∙ ap (λ l. old ++ map (wire_by (grammar_of node.profile)) l) none) same
          unsent (slot.Live c) st same = absurd st
          unsent (slot.Pending o) st same = absurd st

-- one place more
pub proceed_marked : (Goes : Place → List Place → List Outgoing → Type 0) (done went : List Place) (sent more : List Outgoing) (place after : Place) → AllGoMarked Goes done went sent
    → Goes place (after ∷ []) more → AllGoMarked Goes (done ++ place ∷ []) (went ++ after ∷ []) (sent ++ more)
proceed_marked Goes [] went sent more place after go g =
    (after ∷ [], [], more, [], ap (λ xs. xs ++ after ∷ []) go.0, ap (λ xs. xs ++ more) go.1 ∙ sym (append-nil more), g, (refl, refl))
proceed_marked Goes (d ∷ done) went sent more place after (now, later, first, others, w, p, g, rest) h = (
  now,
  later ++ after ∷ [],
  first,
  others ++ more,
  ap (λ xs. xs ++ after ∷ []) w ∙ append_assoc now later (after ∷ []),
  ap (λ xs. xs ++ more) p ∙ append_assoc first others more,
  g,
  proceed_marked Goes done later others more place after rest h,
)

module _ {S : Type 0} (by : Marker S) (node : Node) (marking : Key → Marking) where
  pub ticks_more_marked : (places : List Place) (i : ℕ) (es : List (Key × Slot S)) (old mid new : List Wire) (now : Slot S) → i < length es
      → FirstTick by node marking places i es old mid
      → ((key : Key) (was : Slot S) (place : Place) → slice_get es i ≡ Some (key, was) → IsSettledPlace by marking place → SlotStands by.service node key was place
      → SlotTicks by node marking key place now mid new)
      → FirstTick by node marking places (i + 1) (set_value_at es i now) old new
  ticks_more_marked places i es old mid new now lt f h =
      let a = at_slot by.service node Tick_comes es f.went f.left i f.stands f.at lt in
      go a.0 a.1 a.2 (at_entry es i lt) a.3
    where
      at_entry : (xs : List (Key × Slot S)) (k : ℕ) → k < length xs → (e : Key × Slot S) × (slice_get xs k ≡ Some e)
      at_entry [] k l = absurd (omega arith)
      at_entry (x ∷ xs) zero l = (x, refl)
      at_entry (x ∷ xs) (suc k) l = at_entry xs k (omega arith)

      go : (place : Place) (others : List Place) → f.left ≡ place ∷ others → (e : Key × Slot S) × (slice_get es i ≡ Some e)
          → ((e : Key × Slot S) → slice_get es i ≡ Some e → SlotStands by.service node e.0 e.1 place)
          → FirstTick by node marking places (i + 1) (set_value_at es i now) old new
      go place others left (e, is) st =
          let waiting : AllSettled by marking (place ∷ others) = subst (AllSettled by marking) left f.waiting in
          let s = h e.0 e.1 place is waiting.0 (st e is) in
          let stood = subst (λ l. AllStand by.service node es (f.went ++ l)) left f.stands in record {
            done = f.done ++ place ∷ [];
            left = others;
            went = f.went ++ s.after ∷ [];
            sent = f.sent ++ s.sent;
            split = f.split ∙ (ap (λ l. f.done ++ l) left ∙ sym (append_assoc f.done (place ∷ []) others));
            at = length-append f.went (s.after ∷ []) ∙ ap (λ n. n + 1) f.at;
            stands = put_slot by.service node Tick_comes es f.went others place s.after i now stood f.at (λ d at. subst (λ (o : Key × Slot S). SlotStands by.service node o.0 now s.after) (same is at) s.stands);
            go = proceed_marked (GoesMarked (PlaceTurn by.service node Tick_comes) (marks_at by node.boot true marking)) f.done f.went f.sent s.sent place s.after f.go s.goes;
            settled = all_append (IsSettledPlace by marking) f.went (s.after ∷ []) f.settled (s.settled, tt);
            waiting = waiting.1;
            out = out_on (grammar_of node.profile) f.sent s.sent old mid new f.out s.out;
          }
        where
          same : {d e : Key × Slot S} → slice_get es i ≡ Some e → slice_get es i ≡ Some d → e ≡ d
          same {d} {e} p q = ap (λ o. Rattle.std.specs.Option.unwrap_or o e) (sym p ∙ q)

  pub ticks_all_marked : (places : List Place) (i : ℕ) (es : List (Key × Slot S)) (old new : List Wire) → length es ≤ i → i ≤ length es → FirstTick by node marking places i es old new
      → AllTick by node marking places es old new
  ticks_all_marked places i es old new past within f =
      let none = no_more es f.went f.left f.stands (f.at ∙ omega arith) in record {
        after = f.went;
        sent = f.sent;
        stands = subst (λ l. AllStand by.service node es l) (ap (λ l. f.went ++ l) none ∙ append-nil f.went) f.stands;
        go = subst (λ l. AllGoMarked (GoesMarked (PlaceTurn by.service node Tick_comes) (marks_at by node.boot true marking)) l f.went f.sent)
            (sym (f.split ∙ (ap (λ l. f.done ++ l) none ∙ append-nil f.done))) f.go;
        settled = f.settled;
        out = f.out;
      }
    where
      no_more : (xs : List (Key × Slot S)) (went left : List Place) → AllStand by.service node xs (went ++ left) → length went ≡ length xs → left ≡ []
      no_more [] [] [] st e = refl
      no_more [] [] (q ∷ qs) st e = absurd st
      no_more [] (p ∷ ps) left st e = absurd st
      no_more (x ∷ xs) [] left st e = absurd (omega arith)
      no_more (x ∷ xs) (p ∷ ps) left st e = no_more xs ps left st.1 (omega arith)

  -- no marking changes
  same_then : (places : List Place) → AllSettled by marking places → (key : Key) (o : Option Place) → place_at key places ≡ o → marking_then by o (marking key) ≡ marking key
  same_then places s key (Some (Lives q)) e =
      let at : IsSettledPoint by (marking q.key) q = all_find (IsSettledPlace by marking) (λ x. key_eq (key_of x) key) places (Lives q) s e in
      let is : q.key ≡ key = same_key q.key key (found_passes (λ x. key_eq (key_of x) key) places (Lives q) e) in
      new_same by (marking key) q (subst (λ k. is_due by.service by.every (marking k) q ≡ false) is at.settled.marked)
  same_then places s key (Some (Opens n timestamping)) e = refl
  same_then places s key (Some (Ended k)) e = refl
  same_then places s key None e = refl

  like : (m : Key → Marking) → ((k : Key) → m k ≡ marking k) → (places : List Place) → AllSettled by marking places → AllSettled by m places
  like m same [] s = tt
  like m same (Lives q ∷ places) s = (subst (λ x. IsSettledPoint by x q) (sym (same q.key)) s.0, like m same places s.1)
  like m same (Opens n timestamping ∷ places) s = (tt, like m same places s.1)
  like m same (Ended k ∷ places) s = (tt, like m same places s.1)

pub serving_ticks : {S : Type 0} (by : Marker S) (who : Identity) (standing : law_stage) (awaits : Bool) (marking : Key → Marking) (opened : ℕ) (places : List Place) (now : Serving S) (marks : KeyMarks)
    (old mid new : List Wire) → now.next.0 ≡ initial_number who.isn opened → Keeps by marking marks → AllTick by (node_of who standing) marking places now.slots.entries old mid
    → ArePut (grammar_in who) (all_opens (node_of who standing) Tick_comes now.slots.entries) mid new → ServingGoesMarked by (node_at who standing awaits marking) Tick_comes opened places now marks old new
serving_ticks by who standing awaits marking opened places now marks old mid new number keeps t asked =
    let node : Node = node_of who standing in
    let opens : ArePut (grammar_in who) (flat_map (opens_at node Tick_comes) t.after) mid new = subst (λ ps. ArePut (grammar_in who) ps mid new) (sym (opens_are by.service node Tick_comes now.slots.entries t.after t.stands)) asked in
    let then_at : Key → Marking = λ key. marking_then by (place_at key t.after) (marking key) in
    let same : (k : Key) → then_at k ≡ marking k = λ k. same_then by node marking t.after t.settled k (place_at k t.after) refl in
    record {
      later = t.after;
      marking = then_at;
      sent = t.sent ++ map Plain (flat_map (opens_at node Tick_comes) t.after);
      stands = record { number = number ∙ ap (initial_number who.isn) (plus_none opened); slots = t.stands };
      turn = record { went = t.after; by_places = t.sent; all_go = t.go; places = sym (append-nil t.after); marking_is = refl; packets = refl };
      keeps = record { every = keeps.every; each = λ k. keeps.each k ∙ sym (same k) };
      settled = like by node marking then_at same t.after t.settled;
      out = out_on (grammar_in who) t.sent (map Plain (flat_map (opens_at node Tick_comes) t.after)) old mid new t.out
          (plain_out (grammar_in who) (flat_map (opens_at node Tick_comes) t.after) mid new opens.wires opens.spelled);
    }
  where
    plus_none : (n : ℕ) → n ≡ n + 0
    plus_none n = omega arith

-- what a slot sends again, by the connection that it lends
pub again_live : {S : Type 0} (grammar : Grammar) (boot : ℕ) (key : Key) (from : ℕ) (s : Slot S) (c : ConnState S) (m : Marking) (old new : List Wire) → Some c ≡ conn_in (Some s) → SendsMarks grammar boot key from (outstanding_in m) old new
    → SendsAgain grammar boot key from s m old new
again_live grammar boot key from (slot.Live d) c m old new is sends = sends
again_live grammar boot key from (slot.Pending o) c m old new is sends = none_is_some c (sym is)
again_live grammar boot key from slot.Done c m old new is sends = none_is_some c (sym is)

pub again_none : {S : Type 0} (grammar : Grammar) (boot : ℕ) (key : Key) (from : ℕ) (s : Slot S) (m : Marking) (reported : List Wire) → None ≡ conn_in (Some s) → SendsAgain grammar boot key from s m reported reported
again_none grammar boot key from (slot.Live d) m reported is = none_is_some d is
again_none grammar boot key from (slot.Pending o) m reported is = refl
again_none grammar boot key from slot.Done m reported is = refl
