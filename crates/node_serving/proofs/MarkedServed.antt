-- The turn of a node that marks, while it serves, from that without marks.
use Rattle.std.proofs.Common.{◌≡◌, ◌∙◌, ℕ, Bool, false, ◌&&◌, not, nat_lt, refl, sym, ap, ap₂, subst, Ok, Option, Some, None, MatchOption, List, [], ◌∷◌, ◌++◌, map, append-nil, if◌then◌else◌}
use Rattle.std.specs.List.{AllByRecursion, IsDistinct}
use Rattle.std.specs.Map.{keys_of}
use Rattle.std.proofs.lemmas.Bool.{or_from}
use Rattle.ft_io.specs.declared.Key.{Key}
use Rattle.ft_io.specs.Key.{key_eq}
use Rattle.ft_io.proofs.Choices.{by_cases}
use Rattle.seq_arith.specs.Mark.{MarkMessage}
use Rattle.seq_arith.specs.Mark.MarkBody.{MarkedMsg}
use Rattle.server_trait.specs.Service.{AreBytes}
use Rattle.server_trait.specs.Service.{Machine}
use Rattle.seq_arith.specs.declared.kinds.Grammar.{Grammar}
use Rattle.tcp_rules.specs.Profile.{grammar_of}
use Rattle.tcp_rules.specs.Profiles.{profile_of}
use Rattle.ft_model.specs.Network.{Packet, source_of}
use Rattle.ft_model.specs.Node.{Node, Place, Stage as law_stage, Input, key_of, place_at, is_for, is_known, pending_count}
use Rattle.ft_model.specs.Node.Input.{Packet_comes}
use Rattle.ft_model.specs.Opening.{is_syn, numbers_for, timestamping_for}
use Rattle.ft_model.specs.Node.Place.{Opens, Lives, Ended}
use Rattle.ft_model.specs.Point.{Point}
use Rattle.seq_arith.specs.Packet.{Segment}
use Rattle.seq_arith.specs.PacketGrammar.{reading, payload_at, segment_in}
use Rattle.ft_model.specs.ServingTurn.{PlaceTurn, AllGo, concerns, newcomers}
use Rattle.ft_model.proofs.Formed.{bytes_drop}
use Rattle.ft_model.specs.Wire.{Wire}
use Rattle.ft_model.specs.Keys.{AreDistinct, has_key}
use Rattle.ft_model.proofs.Keys.{key_eq_turns, finds_itself, all_from_get}
use Rattle.ft_model.proofs.Lists.{all_slice_get, all_find, found_passes, same_key, key_is, some_is}
use Rattle.mark_laws.specs.Marking.{Marking, Outgoing, MarkedTurn, is_due, with_new, new_marks, marking_answered, marks_out}
use Rattle.mark_laws.specs.MarkedNode.{Marker, MarkedNode, RestsMarked, ReceivesOfMark, is_tick_input, live_at, with_marking}
use Rattle.wrapped_conn.specs.ConnState.{ConnState}
use Rattle.conn_marks.specs.KeyMarks.{KeyMarks, marking_in, Changes}
use Rattle.conn_marks.specs.MarkSends.{AreOut, SendsMarks}
use Rattle.conn_marks.specs.Settled.{Keeps, IsSettledPoint, IsSettledPlace, AllSettled, MarksNew, MarksPlace}
use Rattle.conn_marks.proofs.KeyMarks.{changes_none}
use Rattle.conn_marks.proofs.MarkWires.{put_out, out_none, sends_none}
use Rattle.conn_marks.proofs.Serving.{InputBytes, new_none, serves_one}
use Rattle.conn_marks.proofs.OneMarked.{stays_of}
use Rattle.conn_marks.proofs.Settling.{new_same, none_due}
use Rattle.node_serving.specs.declared.identity.Identity.{Identity}
use Rattle.node_serving.specs.declared.serving.Serving.{Serving as CodeServing}
use Rattle.node_serving.specs.declared.slot.Slot.{Slot}
use Rattle.node_serving.specs.Conn.{IsOursAt}
use Rattle.node_serving.specs.Identity.{node_of, grammar_in}
use Rattle.node_serving.specs.Loan.{IsConnAt}
use Rattle.node_serving.specs.MarkedServing.{ServingGoesMarked, ReceivedOfMark}
use Rattle.node_serving.specs.Markers.{node_at}
use Rattle.node_serving.specs.ServingStage.{ServingGoes}
use Rattle.node_serving.specs.Slots.{AllStand}
use Rattle.node_serving.proofs.OneKey.{place_key}
use Rattle.node_serving.proofs.Turned.{packet_is}

-- the places of distinct keys have distinct keys
absent_places : {S : Type 0} (service : Machine S) (node : Node) (key : Key) (es : List (Key × Slot S)) (places : List Place) → AllStand service node es places
    → AllByRecursion (λ y. key_eq key y ≡ false) (keys_of es) → has_key key (map key_of places) ≡ false
absent_places service node key [] [] st none = refl
absent_places service node key [] (q ∷ qs) st none = absurd st
absent_places service node key (e ∷ es) [] st none = absurd st
absent_places service node key (e ∷ es) (q ∷ qs) st none =
    or_from (key_eq (key_of q) key) (has_key key (map key_of qs)) (ap (λ k. key_eq k key) (place_key service node e.0 e.1 q st.0) ∙ key_eq_turns key e.0 none.0) (absent_places service node key es qs st.1 none.1)

pub places_apart : {S : Type 0} (service : Machine S) (node : Node) (es : List (Key × Slot S)) (places : List Place) → AllStand service node es places → IsDistinct key_eq (keys_of es) → AreDistinct (map key_of places)
unfolding IsDistinct
places_apart service node [] [] st d = tt
places_apart service node [] (q ∷ qs) st d = absurd st
places_apart service node (e ∷ es) [] st d = absurd st
places_apart service node (e ∷ es) (q ∷ qs) st d =
    (subst (λ k. has_key k (map key_of qs) ≡ false) (sym (place_key service node e.0 e.1 q st.0)) (absent_places service node e.0 es qs st.1 d.0), places_apart service node es qs st.1 d.1)

-- a turn other than a tick's, with the mark of the one key that it may concern
pub served_marked : {S : Type 0} (by : Marker S) (who : Identity) (standing : law_stage) (awaits : Bool) (marking : Key → Marking) (input : Input) (key : Key) (opened : ℕ) (places : List Place)
    (es : List (Key × Slot S)) (now : CodeServing S) (m later : KeyMarks) (mid new : List Wire) → ((k : Key) → key_eq key k ≡ false → concerns (node_of who standing) input k ≡ false)
    → is_tick_input input ≡ false → InputBytes input → AllStand by.service (node_of who standing) es places → IsDistinct key_eq (keys_of es) → Keeps by marking m → AllSettled by marking places
    → ServingGoes by.service (node_of who standing) input opened places now [] mid
    → ((ps : List Place) → AllStand by.service (node_of who standing) now.slots.entries ps → MarksPlace by (grammar_in who) who.boot key 0 (place_at key ps) m later mid new)
    → ServingGoesMarked by (node_at who standing awaits marking) input opened places now later [] new
served_marked by who standing awaits marking input key opened places es now m later mid new only still bytes st distinct keeps settled g marks =
    let r = serves_one by (node_at who standing awaits marking) input key only still bytes opened places g.later g.packets (places_apart by.service (node_of who standing) es places st distinct) settled g.turn
    m later mid new g.wires g.spelled keeps (marks g.later g.stands.slots) in record {
      later = g.later;
      marking = r.marking;
      sent = r.sent;
      stands = g.stands;
      turn = r.turn;
      keeps = r.keeps;
      settled = r.settled;
      out = r.out;
    }

-- where none of these is concerned, nothing is due
pub unmarked_place : {S : Type 0} (grammar : Grammar) (by : Marker S) (boot : ℕ) (key : Key) (marking : Key → Marking) (places : List Place) (m : KeyMarks) (reported : List Wire) (o : Option Place) → place_at key places ≡ o → Keeps by marking m
    → AllSettled by marking places → MarksPlace by grammar boot key 0 o m m reported reported
unmarked_place grammar by boot key marking places m reported (Some (Lives p)) e keeps settled = λ bytes.
    let at : IsSettledPoint by (marking p.key) p = all_find (IsSettledPlace by marking) (λ x. key_eq (key_of x) key) places (Lives p) settled e in
    let is : p.key ≡ key = same_key p.key key (found_passes (λ x. key_eq (key_of x) key) places (Lives p) e) in
    let held : marking p.key ≡ marking_in m key = ap marking is ∙ sym (keeps.each key) in
    let off = subst (λ x. is_due by.service by.every x p ≡ false) held at.settled.marked in record {
      changes = changes_none m key (with_new by.service by.writing by.every p (marking_in m key)) (sym (new_same by (marking_in m key) p off));
      sends = subst (λ ms. SendsMarks grammar boot key 0 ms reported reported) (sym (new_none by (marking_in m key) p off)) (sends_none grammar boot key 0 reported);
    }
unmarked_place grammar by boot key marking places m reported (Some (Opens n timestamping)) e keeps settled = (refl, refl)
unmarked_place grammar by boot key marking places m reported (Some (Ended k)) e keeps settled = (refl, refl)
unmarked_place grammar by boot key marking places m reported None e keeps settled = (refl, refl)

-- an answer to a mark

-- nothing is heard
pub not_received : {S : Type 0} (by : Marker S) (node : MarkedNode) (places : List Place) (message : MarkMessage) (m : KeyMarks) (reported : List Wire) → ReceivesOfMark by node places message.body [] node → reported ≡ []
    → Keeps by node.marking m → AllSettled by node.marking places → ReceivedOfMark by node places message m reported reported
not_received by node places message m reported on_receipt none keeps settled =
    record { marking = node.marking; sent = []; on_receipt = on_receipt; keeps = keeps; settled = settled; out = out_none (grammar_of node.plain.profile) reported }

-- what an answer leads to, at what is live of its key
abbrev AtLive : {S : Type 0} → Marker S → MarkedNode → (reads : ℕ) → Option Point → List Outgoing → MarkedNode → Type 0
AtLive by before reads o sent after =
    MatchOption o (RestsMarked before sent after)
    (λ p. (m : Marking) × MarkedTurn by.service by.writing by.every before.plain.boot reads p (before.marking p.key) m sent × (after ≡ record before { marking = with_marking p.key m before.marking }))

pub none_live : {S : Type 0} (by : Marker S) (node : MarkedNode) (key : Key) (reads : ℕ) (places : List Place) (o : Option Place) → place_at key places ≡ o
    → IsConnAt by.service node.plain None o → ReceivesOfMark by node places (MarkedMsg key reads) [] node
none_live by node key reads places (Some (Lives p)) e c = absurd c
none_live by node key reads places (Some (Opens n timestamping)) e c = subst (λ o. AtLive by node reads (live_at o) [] node) (sym e) (refl, refl)
none_live by node key reads places (Some (Ended k)) e c = subst (λ o. AtLive by node reads (live_at o) [] node) (sym e) (refl, refl)
none_live by node key reads places None e c = subst (λ o. AtLive by node reads (live_at o) [] node) (sym e) (refl, refl)

-- it is heard: the next mark may be due
pub received_live : {S : Type 0} (by : Marker S) (node : MarkedNode) (key : Key) (reads : ℕ) (boot_of : ℕ) (places : List Place) (p : Point) (was mid later : KeyMarks) (new : List Wire) → AreDistinct (map key_of places)
    → place_at key places ≡ Some (Lives p) → Keeps by node.marking was → AllSettled by node.marking places → Changes key (marking_answered reads (marking_in was key)) was mid
    → MarksNew by (grammar_of node.plain.profile) node.plain.boot key p mid later 0 [] new → ReceivedOfMark by node places (record { boot = boot_of; body = MarkedMsg key reads }) later [] new
received_live {S} by node key reads boot_of places p was mid later new apart e keeps settled changes marks =
    let is : p.key ≡ key = same_key p.key key (found_passes (λ x. key_eq (key_of x) key) places (Lives p) e) in
    let at : IsSettledPoint by (node.marking p.key) p = all_find (IsSettledPlace by node.marking) (λ x. key_eq (key_of x) key) places (Lives p) settled e in
    let answered : Marking = marking_answered reads (node.marking p.key) in
    let mid_is : marking_in mid key ≡ answered =
    changes.marking key ∙ (ap (λ b. if b then marking_answered reads (marking_in was key) else marking_in was key) (key_is key)
    ∙ ap (marking_answered reads) (keeps.each key ∙ ap node.marking (sym is))) in
    let next : Marking = with_new by.service by.writing by.every p answered in
    let then_marking : Key → Marking = with_marking p.key next node.marking in
    let ms = new_marks by.service by.writing by.every answered p in
    let sends : SendsMarks (grammar_of node.plain.profile) node.plain.boot key 0 ms [] new = subst (λ x. SendsMarks (grammar_of node.plain.profile) node.plain.boot key 0 (new_marks by.service by.writing by.every x p) [] new) mid_is marks.sends in
    let settles : IsSettledPoint by next p =
    record { taken = at.taken; held = at.held; settled = record { marked = none_due by answered p; read_out = at.settled.read_out } } in
    record {
      marking = then_marking;
      sent = marks_out node.plain.boot p ms;
      on_receipt = subst (λ o. AtLive by node reads (live_at o) (marks_out node.plain.boot p ms) (record node { marking = then_marking })) (sym e)
          (next, record { marking = refl; sent_are = refl }, refl);
      keeps = record {
        every = marks.changes.every ∙ (changes.every ∙ keeps.every);
        each = λ k. marks.changes.marking k
            ∙ by_cases (key_eq k key)
            (λ on. ap (λ b. if b then with_new by.service by.writing by.every p (marking_in mid key) else marking_in mid k) on
            ∙ (ap (with_new by.service by.writing by.every p) mid_is ∙ sym (ap (λ b. if b then next else node.marking k) (ap (key_eq k) is ∙ on))))
            (λ off. ap (λ b. if b then with_new by.service by.writing by.every p (marking_in mid key) else marking_in mid k) off
            ∙ (changes.marking k ∙ (ap (λ b. if b then marking_answered reads (marking_in was key) else marking_in was k) off
            ∙ (keeps.each k ∙ sym (ap (λ b. if b then next else node.marking k) (ap (key_eq k) is ∙ off))))));
      };
      settled = all_from_get (IsSettledPlace by then_marking) places
          (λ i x at_i. one x (all_slice_get (IsSettledPlace by node.marking) places i x settled at_i) (finds_itself key_of places i x apart at_i) is settles);
      out = subst (λ l. AreOut (grammar_of node.plain.profile) l [] new) (append-nil (marks_out node.plain.boot p ms)) (put_out (grammar_of node.plain.profile) node.plain.boot key p ms [] [] [] new is refl tt sends);
    }
  where
    one : (x : Place) → IsSettledPlace by node.marking x → place_at (key_of x) places ≡ Some x → p.key ≡ key
        → IsSettledPoint by (with_new by.service by.writing by.every p (marking_answered reads (node.marking p.key))) p
        → IsSettledPlace by (with_marking p.key (with_new by.service by.writing by.every p (marking_answered reads (node.marking p.key))) node.marking) x
    one (Opens n timestamping) s f is settles = tt
    one (Ended k) s f is settles = tt
    one (Lives q) s f is settles =
        by_cases (key_eq q.key p.key)
        (λ on.
        let same : q.key ≡ p.key = same_key q.key p.key on in
        let it : Lives p ≡ Lives q = some_is (Lives p) (Lives q) (sym e ∙ (ap (λ k. place_at k places) (sym (same ∙ is)) ∙ f)) in
        subst (λ b. IsSettledPoint by (if b then with_new by.service by.writing by.every p (marking_answered reads (node.marking p.key)) else node.marking q.key) q) (sym on)
        (subst (IsSettledPlace by (λ k. with_new by.service by.writing by.every p (marking_answered reads (node.marking p.key)))) it settles))
        (λ off. subst (λ b. IsSettledPoint by (if b then with_new by.service by.writing by.every p (marking_answered reads (node.marking p.key)) else node.marking q.key) q) (sym off) s)

-- where no key is concerned
none_stay : {S : Type 0} (by : Marker S) (node : Node) (input : Input) → ((k : Key) → concerns node input k ≡ false) → (before after : List Place) (sent : List Packet) → AllGo (PlaceTurn by.service node input) before after sent
    → after ≡ before
none_stay by node input none [] after sent t = t.0
none_stay by node input none (place ∷ places) after sent (now, later, first, others, places_are, sent_is, goes, rest) =
    places_are ∙ ap₂ ◌++◌ (stays_of by node input place now first goes (none (key_of place))).0 (none_stay by node input none places later others rest)

pub served_unmarked : {S : Type 0} (by : Marker S) (who : Identity) (standing : law_stage) (awaits : Bool) (marking : Key → Marking) (input : Input) (key : Key) (opened : ℕ) (places : List Place)
    (es : List (Key × Slot S)) (now : CodeServing S) (m : KeyMarks) (mid : List Wire) → ((k : Key) → concerns (node_of who standing) input k ≡ false) → newcomers (node_of who standing) input opened places ≡ []
    → is_tick_input input ≡ false → InputBytes input → AllStand by.service (node_of who standing) es places → IsDistinct key_eq (keys_of es) → Keeps by marking m → AllSettled by marking places
    → ServingGoes by.service (node_of who standing) input opened places now [] mid → ServingGoesMarked by (node_at who standing awaits marking) input opened places now m [] mid
served_unmarked by who standing awaits marking input key opened places es now m mid none nobody still bytes st distinct keeps settled g =
    let same : g.later ≡ places =
    g.turn.places ∙ (ap (λ l. g.turn.went ++ l) nobody ∙ (append-nil g.turn.went ∙ none_stay by (node_of who standing) input none places g.turn.went g.turn.by_places g.turn.all_go)) in
    let r = serves_one by (node_at who standing awaits marking) input key (λ k other. none k) still bytes opened places g.later g.packets (places_apart by.service (node_of who standing) es places st distinct) settled g.turn
    m m mid mid g.wires g.spelled keeps (unmarked_place (grammar_in who) by who.boot key marking g.later m mid (place_at key g.later) refl keeps (subst (AllSettled by marking) (sym same) settled)) in record {
      later = g.later;
      marking = r.marking;
      sent = r.sent;
      stands = g.stands;
      turn = r.turn;
      keeps = r.keeps;
      settled = r.settled;
      out = r.out;
    }

-- a packet for another server
pub served_elsewhere : {S : Type 0} (by : Marker S) (who : Identity) (standing : law_stage) (awaits : Bool) (marking : Key → Marking) (segment : Segment) (opened : ℕ) (places : List Place)
    (es : List (Key × Slot S)) (now : CodeServing S) (m : KeyMarks) (mid : List Wire) → is_for who.local segment ≡ false → AreBytes segment.payload
    → AllStand by.service (node_of who standing) es places → IsDistinct key_eq (keys_of es) → Keeps by marking m → AllSettled by marking places
    → ServingGoes by.service (node_of who standing) (Packet_comes segment) opened places now [] mid → ServingGoesMarked by (node_at who standing awaits marking) (Packet_comes segment) opened places now m [] mid
served_elsewhere by who standing awaits marking segment opened places es now m mid other bytes =
    served_unmarked by who standing awaits marking (Packet_comes segment) (source_of segment) opened places es now m mid (λ k. ap (λ b. b && key_eq (source_of segment) k) other)
    (ap (λ b. if (b && not (is_known (source_of segment) places)) && is_syn segment && nat_lt (pending_count places) 64 then Opens (numbers_for (profile_of who.profile) who.isn opened segment) (timestamping_for (profile_of who.profile) segment) ∷ [] else []) other) refl bytes

-- the payload of bytes
pub payload_bytes : (bytes : List ℕ) (segment : Segment) → reading bytes ≡ Ok segment → AreBytes bytes → AreBytes segment.payload
unfolding segment_in
payload_bytes bytes segment reads h = subst AreBytes (ap (λ (s : Segment). s.payload) (packet_is bytes segment reads)) (bytes_drop (payload_at bytes) bytes h)

-- at the connection that is live there
pub received_at : {S : Type 0} (by : Marker S) (node : MarkedNode) (key : Key) (reads : ℕ) (boot_of : ℕ) (places : List Place) (c : ConnState S) (was mid later : KeyMarks) (new : List Wire) → AreDistinct (map key_of places)
    → (o : Option Place) → place_at key places ≡ o → IsConnAt by.service node.plain (Some c) o → Keeps by node.marking was → AllSettled by node.marking places
    → Changes key (marking_answered reads (marking_in was key)) was mid
    → ((p : Point) → IsOursAt by.service node.plain.server node.plain.boot c p → AreBytes p.taken → MarksNew by (grammar_of node.plain.profile) node.plain.boot key p mid later 0 [] new)
    → ReceivedOfMark by node places (record { boot = boot_of; body = MarkedMsg key reads }) later [] new
received_at by node key reads boot_of places c was mid later new apart (Some (Lives p)) e at keeps settled changes marks =
    let calm : IsSettledPoint by (node.marking p.key) p = all_find (IsSettledPlace by node.marking) (λ x. key_eq (key_of x) key) places (Lives p) settled e in
    received_live by node key reads boot_of places p was mid later new apart e keeps settled changes (marks p at calm.taken)
received_at by node key reads boot_of places c was mid later new apart (Some (Opens n timestamping)) e at keeps settled changes marks = absurd at
received_at by node key reads boot_of places c was mid later new apart (Some (Ended k)) e at keeps settled changes marks = absurd at
received_at by node key reads boot_of places c was mid later new apart None e at keeps settled changes marks = absurd at
