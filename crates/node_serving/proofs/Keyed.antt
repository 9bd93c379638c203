-- The packets of a key among those of others, and an input that is about one key alone.
use Rattle.std.proofs.Common.{◌≡◌, ◌∙◌, ℕ, Bool, true, false, ◌&&◌, not, refl, sym, ap, subst, true≢false, List, [], ◌∷◌, ◌++◌, map, append-nil, Option, Some, None, Result, Ok, Err, IfOk, if◌then◌else◌}
use Rattle.std.proofs.lemmas.List.{append_cancel_left}
use Rattle.std.specs.List.{AllByRecursion, IsDistinct}
use Rattle.std.specs.Map.{lookup, set_value, remove_entry, keys_of}
use Rattle.ft_io.specs.declared.Addr.{Addr}
use Rattle.ft_io.specs.declared.Key.{Key}
use Rattle.ft_io.specs.Key.{key_eq}
use Rattle.seq_arith.specs.declared.kinds.BadMsg.{BadMsg}
use Rattle.seq_arith.specs.Message.{Body, Message, EntryHead}
use Rattle.seq_arith.specs.Message.{Body as body}
use Rattle.seq_arith.specs.MessageGrammar.{reading_by}
use Rattle.seq_arith.proofs.MessageSpelling.{message_is_read}
use Rattle.server_trait.specs.Service.{Machine}
use Rattle.seq_arith.specs.Packet.{Segment, has_rst, has_ack}
use Rattle.seq_arith.specs.declared.kinds.Grammar.{Grammar}
use Rattle.tcp_rules.specs.Profile.{grammar_of}
use Rattle.ft_model.specs.Network.{Packet, source_of, destination_of}
use Rattle.ft_model.specs.Refusal.{as_listen, as_closed, full_rst, rst_at_ack, rst_behind}
use Rattle.ft_model.specs.Network.Packet.{To_server, To_client, To_logger, From_logger}
use Rattle.ft_model.specs.Restart.{holding_segment}
use Rattle.ft_model.specs.Node.{Node, Place, Input}
use Rattle.ft_model.specs.ServingTurn.{concerns}
use Rattle.ft_model.specs.Wire.{Wire, Party, wire_by, HasWireBy}
use Rattle.ft_model.specs.Wire.Party.{A_client, The_server, The_logger}
use Rattle.ft_model.proofs.Lists.{same_key, key_is, all_weaker}
use Rattle.node_serving.specs.declared.slot.Slot.{Slot}
use Rattle.node_serving.specs.declared.slot.Opening.{Opening}
use Rattle.node_serving.specs.RefusalPackets.{AreSent}
use Rattle.node_serving.specs.Alone.{StandsFor, IsNearFor, IsForSubject, KeyMeets, SlotsAlone}
use Rattle.node_serving.specs.Slots.{numbers_of, SlotStands, SlotGoes, SlotLeaves}
use Rattle.node_serving.specs.Ownership.{reports_of, is_reported_of, goes_to, is_of, of_key, IsBetween, IsFor, IsOnlyFor}
use Rattle.node_serving.proofs.Found.{found_set, none_dropped, other_set, other_dropped}
use Rattle.node_serving.proofs.OneKey.{place_key, place_stays}

-- what tells of one key tells of no other
key_reported : (own key k : Key) → key_eq own key ≡ true → key_eq key k ≡ false → key_eq own k ≡ false
key_reported own key k its other = subst (λ x. key_eq x k ≡ false) (sym (same_key own key its)) other

reported_other : (said : Body) (key k : Key) → reports_of said key ≡ true → key_eq key k ≡ false → reports_of said k ≡ false
reported_other (body.OpenMsg n) key k its other = key_reported n.key key k its other
reported_other (body.DataMsg p) key k its other = key_reported p.key key k its other
reported_other (body.ReadMsg own i n) key k its other = key_reported own key k its other
reported_other (body.DoneMsg own) key k its other = key_reported own key k its other
reported_other body.HelloMsg key k its other = refl
reported_other (body.SummaryMsg n) key k its other = refl
reported_other (body.ListMsg n) key k its other = refl
reported_other (body.EntryMsg n h) key k its other = refl
reported_other (body.BytesMsg o n) key k its other = refl
reported_other (body.PartMsg o n b) key k its other = refl
reported_other (body.CutsMsg o n) key k its other = refl
reported_other (body.LensMsg o n l) key k its other = refl
reported_other (body.OpenedMsg n) key k its other = refl
reported_other (body.StableMsg o) key k its other = refl
reported_other (body.ReadsMsg o) key k its other = refl
reported_other (body.EndedMsg o) key k its other = refl
reported_other (body.StaleMsg n) key k its other = refl
reported_other (body.FullMsg o) key k its other = refl

read_other : (r : Result Message BadMsg) (key k : Key) → IfOk r (λ message. reports_of message.body key ≡ true) → key_eq key k ≡ false → is_reported_of k r ≡ false
read_other (Ok message) key k its other = reported_other message.body key k its other
read_other (Err e) key k its other = refl

between_other : (grammar : Grammar) (key k : Key) (to : Party) (bytes : List ℕ) → IsBetween grammar key to bytes → key_eq key k ≡ false → goes_to grammar k to bytes ≡ false
between_other grammar key k (A_client client) bytes its other = key_reported client key k its other
between_other grammar key k The_logger bytes its other = read_other (reading_by grammar bytes) key k its other
between_other grammar key k The_server bytes its other = absurd its

-- a packet of one key is none of another's
pub none_of : (grammar : Grammar) (key k : Key) (sent : List Wire) → AllByRecursion (IsFor grammar key) sent → key_eq key k ≡ false → of_key grammar k sent ≡ []
none_of grammar key k [] its other = refl
none_of grammar key k (w ∷ ws) its other = ap (λ b. if b then w ∷ of_key grammar k ws else of_key grammar k ws) (between_other grammar key k w.to w.bytes its.0 other) ∙ none_of grammar key k ws its.1 other

-- one that can be sent and is the key's is among the key's packets
is_its : (grammar : Grammar) (key : Key) (packet : Packet) → IsFor grammar key (wire_by grammar packet) → HasWireBy grammar packet → is_of grammar key (wire_by grammar packet) ≡ true
is_its grammar key (To_client segment) its spelled = its
is_its grammar key (To_logger message) its spelled =
    let read = message_is_read message spelled.0 in
    ap (is_reported_of key) read ∙ subst (λ r. IfOk r (λ m. reports_of m.body key ≡ true)) read its
is_its grammar key (To_server segment) its spelled = absurd its
is_its grammar key (From_logger message) its spelled = absurd its

pub all_its : (grammar : Grammar) (key : Key) (packets : List Packet) → AllByRecursion (IsFor grammar key) (map (wire_by grammar) packets) → AllByRecursion (HasWireBy grammar) packets → of_key grammar key (map (wire_by grammar) packets) ≡ map (wire_by grammar) packets
all_its grammar key [] its spelled = refl
all_its grammar key (p ∷ ps) its spelled =
    ap (λ b. if b then wire_by grammar p ∷ of_key grammar key (map (wire_by grammar) ps) else of_key grammar key (map (wire_by grammar) ps)) (is_its grammar key p its.0 spelled.0)
    ∙ ap (λ ws. wire_by grammar p ∷ ws) (all_its grammar key ps its.1 spelled.1)

-- what is told of a key that these packets are
pub reported_its : (grammar : Grammar) (key : Key) (reported : List Wire) (packets : List Packet) → AllByRecursion (IsFor grammar key) reported → reported ≡ map (wire_by grammar) packets → AllByRecursion (HasWireBy grammar) packets
    → of_key grammar key reported ≡ map (wire_by grammar) packets
reported_its grammar key reported packets its is spelled = ap (of_key grammar key) is ∙ all_its grammar key packets (subst (AllByRecursion (IsFor grammar key)) is its) spelled

pub reported_is : (grammar : Grammar) (old new reported : List Wire) (packets : List Packet) → new ≡ old ++ reported → new ≡ old ++ map (wire_by grammar) packets → reported ≡ map (wire_by grammar) packets
reported_is grammar old new reported packets put wires = append_cancel_left old reported (map (wire_by grammar) packets) (sym put ∙ wires)

pub quiet_for : (grammar : Grammar) (key : Key) (reported : List Wire) → IsOnlyFor grammar key reported reported
quiet_for grammar key reported = record { reported = []; put = sym (append-nil reported); alone = tt }

-- segments to one client, as refusals are
abbrev pub AreBack : Key → List Segment → Type 0
AreBack key segments = AllByRecursion (λ segment. destination_of segment ≡ key) segments

pub refused_for : (grammar : Grammar) (key : Key) (segments : List Segment) (old new : List Wire) → AreBack key segments → AreSent segments old new → IsOnlyFor grammar key old new
refused_for grammar key segments old new back sent = record { reported = map (wire_by grammar) (map To_client segments); put = (sent.each grammar).wires; alone = each segments back }
  where
    each : (xs : List Segment) → AllByRecursion (λ segment. destination_of segment ≡ key) xs → AllByRecursion (IsFor grammar key) (map (wire_by grammar) (map To_client xs))
    each [] a = tt
    each (x ∷ xs) a = (ap (λ k. key_eq k key) a.0 ∙ key_is key, each xs a.1)

-- CLOSED and LISTEN answer the client that a segment is from
pub closed_back : (server : Addr) (segment : Segment) (key : Key) → source_of segment ≡ key → AreBack key (as_closed server segment)
closed_back server segment key from = go (has_rst segment) (has_ack segment)
  where
    go : (r a : Bool) → AllByRecursion (λ s. destination_of s ≡ key) (if r then [] else (if a then rst_at_ack server segment ∷ [] else rst_behind server segment ∷ []))
    go true a = tt
    go false true = (from, tt)
    go false false = (from, tt)

pub listen_back : (server : Addr) (segment : Segment) (key : Key) → source_of segment ≡ key → AreBack key (as_listen server segment)
listen_back server segment key from = go (has_ack segment && not (has_rst segment))
  where
    go : (b : Bool) → AllByRecursion (λ s. destination_of s ≡ key) (if b then rst_at_ack server segment ∷ [] else [])
    go true = (from, tt)
    go false = tt

pub held_back : (server : Addr) (head : EntryHead) (key : Key) (segment : Segment) → head.key ≡ key → segment ≡ holding_segment server head → AreBack key (segment ∷ [])
held_back server head key segment own is = (ap destination_of is ∙ own, tt)

pub full_back : (server : Addr) (key : Key) (o : Opening) → AreBack key (full_rst server (numbers_of key o) ∷ [])
full_back server key o = (refl, tt)

module _ {S : Type 0} (service : Machine S) (node : Node) (input : Input) where
  -- a key that the input isn't about keeps its place
  pub stays_for : (key : Key) (place : Option Place) (slot : Option (Slot S)) (reported : List Wire) → concerns node input key ≡ false → StandsFor service node key slot place
      → of_key (grammar_of node.profile) key reported ≡ [] → KeyMeets service node input key place slot reported
  stays_for key (Some place) (Some s) reported other st none = record {
    after = Some place;
    packets = [];
    stands = st;
    turn = place_stays service node input place (ap (concerns node input) (place_key service node key s place st) ∙ other);
    wires = none;
    spelled = tt;
  }
  stays_for key None None reported other st none = record { after = None; packets = []; stands = st; turn = (refl, refl); wires = none; spelled = tt }
  stays_for key (Some place) None reported other st none = absurd st
  stays_for key None (Some s) reported other st none = absurd st

  -- one whose slot goes by the law goes so alone
  pub goes_for : (key : Key) (place : Option Place) (was now : Slot S) (old new : List Wire) (put : IsOnlyFor (grammar_of node.profile) key old new) → StandsFor service node key (Some was) place
      → ((q : Place) → place ≡ Some q → SlotStands service node key was q → SlotGoes service node input key q now old new)
      → KeyMeets service node input key place (Some now) put.reported
  goes_for key (Some q) was now old new put st h =
      let s = h q refl st in record {
        after = Some s.after;
        packets = s.packets;
        stands = s.stands;
        turn = s.turn;
        wires = reported_its (grammar_of node.profile) key put.reported s.packets put.alone (reported_is (grammar_of node.profile) old new put.reported s.packets put.put s.wires) s.spelled;
        spelled = s.spelled;
      }
  goes_for key None was now old new put st h = absurd st

  pub leaves_for : (key : Key) (place : Option Place) (was : Slot S) (old new : List Wire) (put : IsOnlyFor (grammar_of node.profile) key old new) → StandsFor service node key (Some was) place
      → ((q : Place) → SlotStands service node key was q → SlotLeaves service node input q old new)
      → KeyMeets service node input key place None put.reported
  leaves_for key (Some q) was old new put st h =
      let s = h q st in record {
        after = None;
        packets = s.packets;
        stands = tt;
        turn = s.turn;
        wires = reported_its (grammar_of node.profile) key put.reported s.packets put.alone (reported_is (grammar_of node.profile) old new put.reported s.packets put.put s.wires) s.spelled;
        spelled = s.spelled;
      }
  leaves_for key None was old new put st h = absurd st

  -- an input that is about no key
  pub none_alone : (es : List (Key × Slot S)) (reported : List Wire) → ((k : Key) → concerns node input k ≡ false) → SlotsAlone service node input es es reported reported
  none_alone es reported none = record {
    reported = [];
    put = sym (append-nil reported);
    slots = λ k e. refl;
    whose = tt;
    turn = λ k place st near. stays_for k place (lookup (key_eq k) es) [] (none k) st refl;
  }

  -- one that is about this key alone
  module _ (key : Key) (only : (k : Key) → key_eq key k ≡ false → concerns node input k ≡ false) (its : concerns node input key ≡ true) where
    -- a key that the input isn't about is another one
    other_key : (k : Key) → concerns node input k ≡ false → key_eq key k ≡ false
    other_key k e = go (key_eq key k) refl
      where
        go : (b : Bool) → key_eq key k ≡ b → key_eq key k ≡ false
        go true t = absurd (true≢false (sym (subst (λ x. concerns node input x ≡ true) (same_key key k t) its) ∙ e))
        go false t = t

    -- from the turn of that key, where the others' slots are as before
    by_one : (was now : List (Key × Slot S)) (old new : List Wire) (put : IsOnlyFor (grammar_of node.profile) key old new) → ((k : Key) → key_eq key k ≡ false → lookup (key_eq k) now ≡ lookup (key_eq k) was)
        → ((place : Option Place) → StandsFor service node key (lookup (key_eq key) was) place → IsNearFor node.server input place
        → KeyMeets service node input key place (lookup (key_eq key) now) put.reported)
        → SlotsAlone service node input was now old new
    by_one was now old new put same meets = record {
      reported = put.reported;
      put = put.put;
      slots = λ k e. same k (other_key k e);
      whose = all_weaker (IsFor (grammar_of node.profile) key) (IsForSubject node input) put.reported (λ w a. (key, its, a)) put.alone;
      turn = λ k place. go k place (key_eq key k) refl;
    }
      where
        go : (k : Key) (place : Option Place) (b : Bool) → key_eq key k ≡ b → StandsFor service node k (lookup (key_eq k) was) place → IsNearFor node.server input place
            → KeyMeets service node input k place (lookup (key_eq k) now) put.reported
        go k place true t st near =
            let is = same_key key k t in
            subst (λ x. KeyMeets service node input x place (lookup (key_eq x) now) put.reported) is
            (meets place (subst (λ x. StandsFor service node x (lookup (key_eq x) was) place) (sym is) st) near)
        go k place false t st near =
            stays_for k place (lookup (key_eq k) now) put.reported (only k t) (subst (λ s. StandsFor service node k s place) (sym (same k t)) st) (none_of (grammar_of node.profile) key k put.reported put.alone t)

    -- its slot goes on
    pub set_alone : (es : List (Key × Slot S)) (was now : Slot S) (old new : List Wire) → lookup (key_eq key) es ≡ Some was → IsOnlyFor (grammar_of node.profile) key old new
        → ((q : Place) → IsNearFor node.server input (Some q) → SlotStands service node key was q → SlotGoes service node input key q now old new)
        → SlotsAlone service node input es (set_value (key_eq key) es now) old new
    set_alone es was now old new found put h = by_one es (set_value (key_eq key) es now) old new put (λ k t. other_set key k t es now)
        (λ place st near.
        subst (λ s. KeyMeets service node input key place s put.reported) (sym (found_set key es was now found))
        (goes_for key place was now old new put (subst (λ s. StandsFor service node key s place) found st)
        (λ q is stands. h q (subst (IsNearFor node.server input) is near) stands)))

    -- its slot goes away
    pub drop_alone : (es : List (Key × Slot S)) (was : Slot S) (old new : List Wire) → IsDistinct key_eq (keys_of es) → lookup (key_eq key) es ≡ Some was → IsOnlyFor (grammar_of node.profile) key old new
        → ((q : Place) → SlotStands service node key was q → SlotLeaves service node input q old new)
        → SlotsAlone service node input es (remove_entry (key_eq key) es) old new
    drop_alone es was old new distinct found put h = by_one es (remove_entry (key_eq key) es) old new put (λ k t. other_dropped key k t es)
        (λ place st near.
        subst (λ s. KeyMeets service node input key place s put.reported) (sym (none_dropped key es distinct))
        (leaves_for key place was old new put (subst (λ s. StandsFor service node key s place) found st) h))

    -- its slot stays as it is, if it has one
    pub same_alone : (es : List (Key × Slot S)) (reported : List Wire)
        → ((s : Slot S) → lookup (key_eq key) es ≡ Some s → (q : Place) → SlotStands service node key s q → SlotGoes service node input key q s reported reported)
        → SlotsAlone service node input es es reported reported
    unfolding quiet_for
    same_alone es reported h = by_one es es reported reported (quiet_for (grammar_of node.profile) key reported) (λ k t. refl) (λ place st near. go place (lookup (key_eq key) es) refl st)
      where
        go : (place : Option Place) (slot : Option (Slot S)) → lookup (key_eq key) es ≡ slot → StandsFor service node key slot place
            → KeyMeets service node input key place (lookup (key_eq key) es) []
        go place None f st = subst (λ s. KeyMeets service node input key place s []) (sym f) (gone place st)
          where
            gone : (q : Option Place) → StandsFor service node key None q → KeyMeets service node input key q None []
            gone None x = record { after = None; packets = []; stands = tt; turn = (refl, refl); wires = refl; spelled = tt }
            gone (Some q) x = absurd x
        go place (Some s) f st = subst (λ x. KeyMeets service node input key place x []) (sym f) (goes_for key place s s reported reported (quiet_for (grammar_of node.profile) key reported) st (λ q is stands. h s f q stands))
