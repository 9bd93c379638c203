-- What the log's answers to an opening, and its word that a connection has ended, do at the slot of their key.
use Rattle.std.proofs.Common.{◌≡◌, ◌∙◌, Bool, true, false, ◌==◌, eq-eqb, refl, sym, ap, subst, true≢false, List, [], ◌∷◌, append-nil, Option, Some, None, cond}
use Rattle.std.specs.List.{IsDistinct}
use Rattle.std.specs.Bool.{MatchBool}
use Rattle.std.specs.Map.{lookup, set_value, keys_of}
use Rattle.ft_io.specs.declared.Key.{Key}
use Rattle.ft_io.specs.Key.{key_eq}
use Rattle.seq_arith.specs.Message.{Message}
use Rattle.seq_arith.specs.Message.{Body as body}
use Rattle.server_trait.specs.Service.{Machine}
use Rattle.tcp_rules.specs.Profile.{grammar_of}
use Rattle.ft_model.specs.Network.{Packet}
use Rattle.ft_model.specs.Network.Packet.{To_client}
use Rattle.ft_model.specs.News.News.{Begins}
use Rattle.ft_model.specs.Opening.{point_opened}
use Rattle.ft_model.specs.Node.{Node, Place, key_of}
use Rattle.ft_model.specs.Node.Place.{Opens, Lives, Ended}
use Rattle.ft_model.specs.Node.Input.{Message_comes}
use Rattle.ft_model.specs.Refusal.{full_rst}
use Rattle.ft_model.specs.ServingTurn.{OnReceipt, LivesOn, names}
use Rattle.ft_model.specs.Wire.{Wire}
use Rattle.ft_model.proofs.ReportedOver.{all_unit}
use Rattle.wrapped_conn.specs.ConnState.{ConnState}
use Rattle.node_serving.specs.declared.slot.Slot.{Slot}
use Rattle.node_serving.specs.declared.slot.Slot.TheVariants as slot
use Rattle.node_serving.specs.declared.slot.Opening.{Opening}
use Rattle.node_serving.specs.Alone.{SlotsAlone}
use Rattle.node_serving.specs.Conn.{ConnGoes}
use Rattle.node_serving.specs.LogMessages.{opening_in, ended}
use Rattle.node_serving.specs.RefusalPackets.{AreSent}
use Rattle.node_serving.specs.Slots.{numbers_of, SlotStands, SlotGoes, SlotLeaves, AllStand, AllSlotsGo}
use Rattle.node_serving.proofs.OneKey.{place_meets, place_key, one_goes, none_goes, none_found}
use Rattle.node_serving.proofs.Receipt.{only_its_key, its_key}
use Rattle.node_serving.proofs.Keyed.{same_alone}

-- an opening that is found stands in its slot
pub pending_found : {S : Type 0} (found : Option (Slot S)) (o : Opening) → opening_in found ≡ Some o → found ≡ Some (slot.Pending o)
pending_found None o e = absurd (true≢false (sym (ap Rattle.std.specs.Option.is_some e)))
pending_found (Some (slot.Pending x)) o e = ap (λ y. Some (slot.Pending y)) (ap (λ y. Rattle.std.specs.Option.unwrap_or y o) e)
pending_found (Some (slot.Live c)) o e = absurd (true≢false (sym (ap Rattle.std.specs.Option.is_some e)))
pending_found (Some slot.Done) o e = absurd (true≢false (sym (ap Rattle.std.specs.Option.is_some e)))

-- a slot put where it stands already
set_same : {X : Type 0} (test : Key → Bool) (es : List (Key × X)) (x : X) → lookup test es ≡ Some x → set_value test es x ≡ es
set_same test [] x found = refl
set_same test (e ∷ es) x found = go (test e.0) refl (λ f. set_same test es x f)
  where
    go : (b : Bool) → test e.0 ≡ b → (lookup test es ≡ Some x → set_value test es x ≡ es) → set_value test (e ∷ es) x ≡ e ∷ es
    go true t rest =
        let here : e.1 ≡ x = ap (λ o. Rattle.std.specs.Option.unwrap_or o x) (sym (ap (λ b. cond b (Some e.1) (lookup test es)) t) ∙ found) in
        ap (λ b. cond b ((e.0, x) ∷ es) (e ∷ set_value test es x)) t ∙ ap (λ y. (e.0, y) ∷ es) (sym here)
    go false t rest =
        let f = rest (sym (ap (λ b. cond b (Some e.1) (lookup test es)) t) ∙ found) in
        ap (λ b. cond b ((e.0, x) ∷ es) (e ∷ set_value test es x)) t ∙ ap (λ ys. e ∷ ys) f

module _ {S : Type 0} (service : Machine S) (node : Node) (message : Message) (boot : message.boot ≡ node.boot) (key : Key) (named : (k : Key) → names message.body k ≡ key_eq key k) where
  -- a place that such a message leaves as it is
  quiet : (place : Place) (s : Slot S) (reported : List Wire) → SlotStands service node key s place → OnReceipt service node message.body place (place ∷ []) []
      → SlotGoes service node (Message_comes message) key place s reported reported
  quiet place s reported st on_receipt = record {
    after = place;
    packets = [];
    stands = st;
    turn = place_meets service node (Message_comes message) place (place ∷ []) [] (its_key node message key boot named (key_of place) (place_key service node key s place st)) on_receipt;
    wires = sym (append-nil reported);
    spelled = tt;
  }

  -- Ended ends a live connection, and nothing else
  pub ends : message.body ≡ body.EndedMsg key → (place : Place) (s : Slot S) (reported : List Wire) → SlotStands service node key s place
      → SlotGoes service node (Message_comes message) key place (ended s) reported reported
  ends says (Lives p) (slot.Live c) reported st = record {
    after = Ended p.key;
    packets = [];
    stands = st.0;
    turn = place_meets service node (Message_comes message) (Lives p) (Ended p.key ∷ []) [] (its_key node message key boot named p.key st.0)
        (subst (λ b. OnReceipt service node b (Lives p) (Ended p.key ∷ []) []) (sym says) (refl, refl));
    wires = sym (append-nil reported);
    spelled = tt;
  }
  ends says (Opens n timestamping) (slot.Pending o) reported st = quiet (Opens n timestamping) (slot.Pending o) reported st (subst (λ b. OnReceipt service node b (Opens n timestamping) (Opens n timestamping ∷ []) []) (sym says) (refl, refl))
  ends says (Ended k) slot.Done reported st = quiet (Ended k) slot.Done reported st (subst (λ b. OnReceipt service node b (Ended k) (Ended k ∷ []) []) (sym says) (refl, refl))
  ends says (Lives p) (slot.Pending o) reported st = absurd st
  ends says (Lives p) slot.Done reported st = absurd st
  ends says (Opens n timestamping) (slot.Live c) reported st = absurd st
  ends says (Opens n timestamping) slot.Done reported st = absurd st
  ends says (Ended k) (slot.Live c) reported st = absurd st
  ends says (Ended k) (slot.Pending o) reported st = absurd st

  -- Opened with the client's number makes the connection
  pub opening_lives : (numbers : Opening) → message.body ≡ body.OpenedMsg (numbers_of key numbers) → (place : Place) (o : Opening) (c : ConnState S) (old new : List Wire)
      → SlotStands service node key (slot.Pending o) place → o.cisn.0 ≡ numbers.cisn.0
      → ConnGoes (grammar_of node.profile) service node.server node.boot Begins (point_opened node.profile o.timestamping (numbers_of key numbers)) c old new
      → SlotGoes service node (Message_comes message) key place (slot.Live c) old new
  opening_lives numbers says (Opens n timestamping) o c old new st same g =
      let equal : (numbers.cisn.0 == n.cisn) ≡ true = eq-eqb numbers.cisn.0 n.cisn (sym same ∙ sym (ap (λ x. x.cisn) st.0)) in
      let lives : LivesOn service node Begins (point_opened node.profile timestamping (numbers_of key numbers)) (Lives g.after ∷ []) g.packets =
      subst (λ t. LivesOn service node Begins (point_opened node.profile t (numbers_of key numbers)) (Lives g.after ∷ []) g.packets) (sym st.1) (g.after, refl, g.turn) in record {
        after = Lives g.after;
        packets = g.packets;
        stands = (g.key, g.stands);
        turn = place_meets service node (Message_comes message) (Opens n timestamping) (Lives g.after ∷ []) g.packets (its_key node message key boot named n.key (ap (λ x. x.key) st.0))
            (subst (λ b. OnReceipt service node b (Opens n timestamping) (Lives g.after ∷ []) g.packets) (sym says)
            (subst (λ b. MatchBool b (LivesOn service node Begins (point_opened node.profile timestamping (numbers_of key numbers)) (Lives g.after ∷ []) g.packets) ((Lives g.after ∷ [] ≡ []) × (g.packets ≡ []))) (sym equal) lives));
        wires = g.wires;
        spelled = g.spelled;
      }
  opening_lives numbers says (Lives p) o c old new st same g = absurd st
  opening_lives numbers says (Ended k) o c old new st same g = absurd st

  -- with another number it drops the opening
  pub opening_drops : (numbers : Opening) → message.body ≡ body.OpenedMsg (numbers_of key numbers) → (place : Place) (o : Opening) (reported : List Wire)
      → SlotStands service node key (slot.Pending o) place → (numbers.cisn.0 == o.cisn.0) ≡ false → SlotLeaves service node (Message_comes message) place reported reported
  opening_drops numbers says (Opens n timestamping) o reported st other =
      let none : List Place = [] in
      let quiet : List Packet = [] in
      let differ : (numbers.cisn.0 == n.cisn) ≡ false = ap (λ x. numbers.cisn.0 == x.cisn) st.0 ∙ other in record {
        packets = [];
        turn = place_meets service node (Message_comes message) (Opens n timestamping) [] [] (its_key node message key boot named n.key (ap (λ x. x.key) st.0))
            (subst (λ b. OnReceipt service node b (Opens n timestamping) [] []) (sym says)
            (subst (λ b. MatchBool b (LivesOn service node Begins (point_opened node.profile timestamping (numbers_of key numbers)) none quiet) ((none ≡ []) × (quiet ≡ []))) (sym differ) (refl, refl)));
        wires = sym (append-nil reported);
        spelled = tt;
      }
  opening_drops numbers says (Lives p) o reported st other = absurd st
  opening_drops numbers says (Ended k) o reported st other = absurd st

  -- Full drops an opening and refuses its SYN
  pub opening_refused : message.body ≡ body.FullMsg key → (place : Place) (o : Opening) (old new : List Wire) → SlotStands service node key (slot.Pending o) place
      → AreSent (full_rst node.server (numbers_of key o) ∷ []) old new → SlotLeaves service node (Message_comes message) place old new
  opening_refused says (Opens n timestamping) o old new st reported =
      let at : AreSent (full_rst node.server n ∷ []) old new = subst (λ x. AreSent (full_rst node.server x ∷ []) old new) (sym st.0) reported in record {
        packets = To_client (full_rst node.server n) ∷ [];
        turn = place_meets service node (Message_comes message) (Opens n timestamping) [] (To_client (full_rst node.server n) ∷ []) (its_key node message key boot named n.key (ap (λ x. x.key) st.0))
            (subst (λ b. OnReceipt service node b (Opens n timestamping) [] (To_client (full_rst node.server n) ∷ [])) (sym says) (refl, refl));
        wires = (at.each (grammar_of node.profile)).wires;
        spelled = (at.each (grammar_of node.profile)).spelled;
      }
  opening_refused says (Lives p) o old new st reported = absurd st
  opening_refused says (Ended k) o old new st reported = absurd st

  -- a message that only a pending opening heeds, where none is pending
  module _ (live : (p : Rattle.ft_model.specs.Point.Point) → OnReceipt service node message.body (Lives p) (Lives p ∷ []) []) (done : (k : Key) → OnReceipt service node message.body (Ended k) (Ended k ∷ []) []) where
    unpending : (s : Slot S) (reported : List Wire) → opening_in (Some s) ≡ None → (place : Place) → SlotStands service node key s place → SlotGoes service node (Message_comes message) key place s reported reported
    unpending (slot.Pending o) reported free place at = absurd (true≢false (ap Rattle.std.specs.Option.is_some free))
    unpending (slot.Live c) reported free (Lives p) at = quiet (Lives p) (slot.Live c) reported at (live p)
    unpending (slot.Live c) reported free (Opens n timestamping) at = absurd at
    unpending (slot.Live c) reported free (Ended k) at = absurd at
    unpending slot.Done reported free (Ended k) at = quiet (Ended k) slot.Done reported at (done k)
    unpending slot.Done reported free (Lives p) at = absurd at
    unpending slot.Done reported free (Opens n timestamping) at = absurd at

    pub none_pending : (es : List (Key × Slot S)) (places : List Place) (reported : List Wire) → IsDistinct key_eq (keys_of es) → opening_in (lookup (key_eq key) es) ≡ None
        → AllStand service node es places → AllSlotsGo service node (Message_comes message) places es reported reported
    none_pending es places reported distinct none st = go (lookup (key_eq key) es) refl
      where
        go : (found : Option (Slot S)) → lookup (key_eq key) es ≡ found → AllSlotsGo service node (Message_comes message) places es reported reported
        go None f = none_goes service node (Message_comes message) key (only_its_key node message key named) es places reported st (none_found (key_eq key) es f)
        go (Some s) f =
            subst (λ xs. AllSlotsGo service node (Message_comes message) places xs reported reported) (set_same (key_eq key) es s f)
            (one_goes service node (Message_comes message) key (only_its_key node message key named) (λ place. Unit {0}) es places s s reported reported st distinct f (all_unit places)
            (λ place u at. unpending s reported (sym (ap opening_in f) ∙ none) place at))

    pub none_pending_alone : (es : List (Key × Slot S)) (reported : List Wire) → opening_in (lookup (key_eq key) es) ≡ None → SlotsAlone service node (Message_comes message) es es reported reported
    none_pending_alone es reported none =
        same_alone service node (Message_comes message) key (only_its_key node message key named) (its_key node message key boot named key refl) es reported
        (λ s f. unpending s reported (sym (ap opening_in f) ∙ none))
