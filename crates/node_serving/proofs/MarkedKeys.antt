-- The mark of one key, as it is made and sent.
use Rattle.std.proofs.Common.{◌≡◌, ◌∙◌, ℕ, ◌<◌, ◌≤◌, ◌+◌, ◌-◌, Bool, true, false, not, refl, sym, ap, subst, arith, Option, Some, None, option_map, List, [], ◌∷◌, ◌++◌, filter, length, take, drop, length-append, length-drop, if◌then◌else◌}
use Rattle.std.specs.Prelude.{is_none}
use Rattle.std.proofs.Math.Seq.{take-append_seam}
use Rattle.std.specs.Option.{is_some}
use Rattle.ft_io.specs.declared.Addr.{Addr}
use Rattle.ft_io.specs.declared.Key.{Key}
use Rattle.ft_io.proofs.Choices.{if_false}
use Rattle.seq_arith.specs.Mark.{Mark, MarkMessage}
use Rattle.seq_arith.specs.Mark.MarkBody.{MarkMsg}
use Rattle.seq_arith.specs.MarkGrammar as marks
use Rattle.server_trait.specs.Service.{Machine, AreBytes}
use Rattle.logger_wire.specs.declared.marks.mark_msg.MarkMsg.{MarkMsg as CodeMsg}
use Rattle.logger_wire.specs.MarkValue.{message_of}
use Rattle.seq_arith.specs.declared.kinds.Grammar.{Grammar}
use Rattle.tcp_rules.specs.Profile.{grammar_of}
use Rattle.ft_model.specs.Node.{Node, Place}
use Rattle.ft_model.specs.Node.Place.{Opens, Lives, Ended}
use Rattle.ft_model.specs.Point.{Point}
use Rattle.ft_model.specs.Wire.{Wire}
use Rattle.ft_model.proofs.Lists.{none_is_some, some_is, key_is}
use Rattle.mark_laws.specs.Marking.{Marking, with_new, new_marks, outstanding_in}
use Rattle.mark_laws.specs.MarkedNode.{Marker}
use Rattle.wrapped_conn.specs.ConnState.{ConnState}
use Rattle.wrapped_conn.specs.Refinement.{Stands}
use Rattle.wrapped_conn.specs.Sound.{IsSound as IsSoundConn}
use Rattle.conn_marks.specs.KeyMarks.{KeyMarks, marking_in, every_for, Changes}
use Rattle.conn_marks.specs.MarkSends.{mark_wire, SendsMarks, mark_message, put_before, is_done_wire}
use Rattle.conn_marks.specs.Settled.{MarksNew, MarksPlace}
use Rattle.conn_marks.proofs.MarkWires.{sends_none}
use Rattle.conn_marks.proofs.Settling.{made_are}
use Rattle.node_serving.specs.Conn.{IsSound, IsOursAt}
use Rattle.node_serving.specs.declared.slot.Slot.{Slot}
use Rattle.node_serving.specs.declared.slot.Slot.TheVariants as slot
use Rattle.node_serving.specs.Loan.{IsConnAt, conn_in}
use Rattle.node_serving.specs.Slots.{SlotStands}

pub sound_of : {S : Type 0} (c : ConnState S) → IsSound c → IsSoundConn c
unfolding IsSound
sound_of c s = s

pub conn_stands : {S : Type 0} (service : Machine S) (server : Addr) (boot : ℕ) (c : ConnState S) (p : Point) → IsOursAt service server boot c p → Stands service c p
unfolding IsOursAt
conn_stands service server boot c p s = s.0

-- a service marks after every so many reads only where its states can be saved
pub savable_of : (savable : Bool) (every n : ℕ) → n ≡ every_for savable every → 0 < n → savable ≡ true
savable_of true every n is some = refl
savable_of false every n is some = absurd (omega (arith, is, some))

-- whether a mark waits
pub reported_is : (boot : ℕ) (key : Key) (o : Option CodeMsg) (m : Marking) (b : Bool) → option_map message_of o ≡ option_map (λ mark. record { boot = boot; body = MarkMsg key mark }) m.outstanding → is_some o ≡ b
    → is_none m.outstanding ≡ not b
reported_is boot key o m b is waits = go o m.outstanding is waits
  where
    go : (o : Option CodeMsg) (p : Option Mark) → option_map message_of o ≡ option_map (λ mark. mark_message boot key mark) p → is_some o ≡ b → is_none p ≡ not b
    go None None e w = ap not w
    go (Some x) (Some y) e w = ap not w
    go None (Some y) e w = none_is_some (mark_message boot key y) e
    go (Some x) None e w = none_is_some (message_of x) (sym e)

-- one does: no other is made
pub waits_not : {S : Type 0} (grammar : Grammar) (by : Marker S) (boot : ℕ) (key : Key) (p : Point) (was now : KeyMarks) (from : ℕ) (reported : List Wire) → was.every ≡ by.every
    → Changes key (with_new by.service by.writing was.every p (marking_in was key)) was now → is_none (marking_in was key).outstanding ≡ false → MarksNew by grammar boot key p was now from reported reported
waits_not grammar by boot key p was now from reported number changes waits =
    let none : new_marks by.service by.writing by.every (marking_in was key) p ≡ [] =
    made_are by (marking_in was key) p ∙ if_false (is_none (marking_in was key).outstanding) _ [] waits in record {
      changes = subst (λ n. Changes key (with_new by.service by.writing n p (marking_in was key)) was now) number changes;
      sends = subst (λ ms. SendsMarks grammar boot key from ms reported reported) (sym none) (sends_none grammar boot key from reported);
    }

-- none does: what is then outstanding was made
pub waits_new : {S : Type 0} (grammar : Grammar) (by : Marker S) (boot : ℕ) (key : Key) (p : Point) (was now : KeyMarks) (from : ℕ) (old new : List Wire) → was.every ≡ by.every
    → Changes key (with_new by.service by.writing was.every p (marking_in was key)) was now → is_none (marking_in was key).outstanding ≡ true
    → SendsMarks grammar boot key from (outstanding_in (marking_in now key)) old new → MarksNew by grammar boot key p was now from old new
waits_new grammar by boot key p was now from old new number changes waits sends =
    let changed : Changes key (with_new by.service by.writing by.every p (marking_in was key)) was now =
    subst (λ n. Changes key (with_new by.service by.writing n p (marking_in was key)) was now) number changes in
    let now_is : marking_in now key ≡ with_new by.service by.writing by.every p (marking_in was key) =
    changed.marking key
    ∙ ap (λ b. if b then with_new by.service by.writing by.every p (marking_in was key) else marking_in was key) (key_is key) in
    let made : new_marks by.service by.writing by.every (marking_in was key) p ≡ outstanding_in (with_new by.service by.writing by.every p (marking_in was key)) =
    made_are by (marking_in was key) p ∙ ap (λ b. if b then outstanding_in (with_new by.service by.writing by.every p (marking_in was key)) else []) waits in record {
      changes = changed;
      sends = subst (λ ms. SendsMarks grammar boot key from ms old new) (ap outstanding_in now_is ∙ sym made) sends;
    }

-- the message that is sent, if there is one
pub sends_one : (grammar : Grammar) (boot : ℕ) (key : Key) (from : ℕ) (o : CodeMsg) (m : Marking) (old new : List Wire) → option_map message_of (Some o) ≡ option_map (λ mark. record { boot = boot; body = MarkMsg key mark }) m.outstanding
    → marks.IsSpellable (message_of o)
    → new ≡ put_before (length (filter (is_done_wire grammar) (drop from old))) (mark_wire (message_of o) ∷ []) old
    → SendsMarks grammar boot key from (outstanding_in m) old new
sends_one grammar boot key from o m old new is spells wires = go m.outstanding is
  where
    go : (p : Option Mark) → Some (message_of o) ≡ option_map (λ mark. mark_message boot key mark) p → SendsMarks grammar boot key from (outstanding_in (record m { outstanding = p })) old new
    go None e = none_is_some (message_of o) (sym e)
    go (Some mark) e =
        let same : message_of o ≡ mark_message boot key mark = some_is (message_of o) (mark_message boot key mark) e in record {
          wires = wires ∙ ap (λ x. put_before (length (filter (is_done_wire grammar) (drop from old))) (mark_wire x ∷ []) old) same;
          spelled = (subst marks.IsSpellable same spells, tt);
        }

pub sends_nothing : (grammar : Grammar) (boot : ℕ) (key : Key) (from : ℕ) (o : Option CodeMsg) (m : Marking) (reported : List Wire) → option_map message_of o ≡ option_map (λ mark. record { boot = boot; body = MarkMsg key mark }) m.outstanding
    → o ≡ None → SendsMarks grammar boot key from (outstanding_in m) reported reported
sends_nothing grammar boot key from o m reported is none = go m.outstanding (sym (ap (option_map message_of) none) ∙ is)
  where
    go : (p : Option Mark) → None ≡ option_map (λ mark. mark_message boot key mark) p → SendsMarks grammar boot key from (outstanding_in (record m { outstanding = p })) reported reported
    go None e = sends_none grammar boot key from reported
    go (Some mark) e = none_is_some (mark_message boot key mark) e

-- the mark of a place, by the connection that is there
pub place_marked : {S : Type 0} (by : Marker S) (node : Node) (boot : ℕ) (key : Key) (from : ℕ) (c : ConnState S) (o : Option Place) (was now : KeyMarks) (old new : List Wire) → IsConnAt by.service node (Some c) o
    → ((p : Point) → IsOursAt by.service node.server node.boot c p → AreBytes p.taken → MarksNew by (grammar_of node.profile) boot key p was now from old new) → MarksPlace by (grammar_of node.profile) boot key from o was now old new
place_marked by node boot key from c (Some (Lives p)) was now old new at h = h p at
place_marked by node boot key from c (Some (Opens n timestamping)) was now old new at h = absurd at
place_marked by node boot key from c (Some (Ended k)) was now old new at h = absurd at
place_marked by node boot key from c None was now old new at h = absurd at

pub place_unmarked : {S : Type 0} (by : Marker S) (node : Node) (boot : ℕ) (key : Key) (from : ℕ) (o : Option Place) (was : KeyMarks) (reported : List Wire) → IsConnAt {S = S} by.service node None o
    → MarksPlace by (grammar_of node.profile) boot key from o was was reported reported
place_unmarked by node boot key from (Some (Lives p)) was reported at = absurd at
place_unmarked by node boot key from (Some (Opens n timestamping)) was reported at = (refl, refl)
place_unmarked by node boot key from (Some (Ended k)) was reported at = (refl, refl)
place_unmarked by node boot key from None was reported at = (refl, refl)

-- .. and of a slot
pub slot_marked : {S : Type 0} (by : Marker S) (node : Node) (boot : ℕ) (key : Key) (from : ℕ) (s : Slot S) (c : ConnState S) (place : Place) (was now : KeyMarks) (old new : List Wire) → Some c ≡ conn_in (Some s)
    → SlotStands by.service node key s place → ((p : Point) → IsOursAt by.service node.server node.boot c p → AreBytes p.taken → MarksNew by (grammar_of node.profile) boot key p was now from old new)
    → MarksPlace by (grammar_of node.profile) boot key from (Some place) was now old new
slot_marked by node boot key from (slot.Live d) c (Lives p) was now old new is st h =
    h p (subst (λ x. IsOursAt by.service node.server node.boot x p) (sym (some_is c d is)) st.1)
slot_marked by node boot key from (slot.Live d) c (Opens n timestamping) was now old new is st h = absurd st
slot_marked by node boot key from (slot.Live d) c (Ended k) was now old new is st h = absurd st
slot_marked by node boot key from (slot.Pending o) c place was now old new is st h = none_is_some c (sym is)
slot_marked by node boot key from slot.Done c place was now old new is st h = none_is_some c (sym is)

pub slot_unmarked : {S : Type 0} (by : Marker S) (node : Node) (boot : ℕ) (key : Key) (from : ℕ) (s : Slot S) (place : Place) (was : KeyMarks) (reported : List Wire) → None ≡ conn_in (Some s)
    → SlotStands by.service node key s place → MarksPlace by (grammar_of node.profile) boot key from (Some place) was was reported reported
slot_unmarked by node boot key from (slot.Live d) place was reported is st = none_is_some d is
slot_unmarked by node boot key from (slot.Pending o) (Opens n timestamping) was reported is st = (refl, refl)
slot_unmarked by node boot key from (slot.Pending o) (Lives p) was reported is st = absurd st
slot_unmarked by node boot key from (slot.Pending o) (Ended k) was reported is st = absurd st
slot_unmarked by node boot key from slot.Done (Ended k) was reported is st = (refl, refl)
slot_unmarked by node boot key from slot.Done (Lives p) was reported is st = absurd st
slot_unmarked by node boot key from slot.Done (Opens n timestamping) was reported is st = absurd st

-- what is written stands at the front
pub text_is : (message : MarkMessage) (n : ℕ) (out old : List ℕ) → out ≡ marks.spelling message ++ drop n old → n ≤ 1134 → length out ≡ 2048 → length old ≡ 2048 → take n out ≡ marks.spelling message
text_is message n out old is short whole room =
    let rest : List ℕ = drop n old in
    let parts : length out ≡ length (marks.spelling message) + length rest = ap length is ∙ length-append (marks.spelling message) rest in
    let left : length rest ≡ length old - n = length-drop n old in
    let long : n ≡ length (marks.spelling message) = omega (arith, parts, left, short, whole, room) in
    ap (λ l. take l out) long ∙ (ap (take (length (marks.spelling message))) is ∙ take-append_seam (marks.spelling message) rest)
