-- Marks among the packets of a place, as bytes.
use Rattle.std.proofs.Common.{◌≡◌, ◌∙◌, ℕ, zero, suc, ◌+◌, ◌-◌, ◌≤◌, Bool, true, false, refl, sym, ap, ap₂, subst, arith, List, [], ◌∷◌, ◌++◌, map, filter, length, take, drop, append_assoc, append-nil, length-append, if◌then◌else◌}
use Rattle.std.specs.List.{AllByRecursion}
use Rattle.std.proofs.lemmas.List.{map-append, take-append-drop, take-map, drop-map}
use Rattle.std.proofs.Math.Seq.{take-append-add, drop-append_seam, drop-append-add}
use Rattle.ft_io.specs.declared.Key.{Key}
use Rattle.seq_arith.specs.declared.kinds.Grammar.{Grammar}
use Rattle.seq_arith.specs.Mark.{Mark}
use Rattle.seq_arith.specs.MarkGrammar as marks
use Rattle.seq_arith.proofs.MessageSpelling.{message_is_read}
use Rattle.ft_model.specs.Network.{Packet}
use Rattle.ft_model.specs.Network.Packet.{To_server, To_client, To_logger, From_logger}
use Rattle.ft_model.specs.Point.{Point}
use Rattle.ft_model.specs.Wire.{Wire, wire_by, HasWireBy}
use Rattle.ft_model.proofs.Lists.{all_append}
use Rattle.mark_laws.specs.Marking.{Outgoing, marks_out, with_marks}
use Rattle.mark_laws.specs.Marking.Outgoing.{Plain}
use Rattle.mark_laws.specs.MarkedNode.{is_done}
use Rattle.conn_marks.specs.MarkSends.{outgoing_wire, HasOutgoingWire, AreOut, says_done_in, is_done_wire, put_before, mark_message, mark_wire, mark_wires, SendsMarks}

-- a packet that can be written says that a connection is done where its bytes do
done_is : (grammar : Grammar) (packet : Packet) → HasWireBy grammar packet → is_done_wire grammar (wire_by grammar packet) ≡ is_done packet
done_is grammar (To_server segment) h = refl
done_is grammar (To_client segment) h = refl
done_is grammar (From_logger message) h = refl
done_is grammar (To_logger message) h = ap says_done_in (message_is_read message h.0)

pub dones_are : (grammar : Grammar) (packets : List Packet) → AllByRecursion (HasWireBy grammar) packets → length (filter (is_done_wire grammar) (map (wire_by grammar) packets)) ≡ length (filter is_done packets)
dones_are grammar [] h = refl
dones_are grammar (packet ∷ packets) h =
    let F : List Wire = filter (is_done_wire grammar) (map (wire_by grammar) packets) in
    ap (λ b. length (if b then wire_by grammar packet ∷ F else F)) (done_is grammar packet h.0) ∙ go (is_done packet) (dones_are grammar packets h.1)
  where
    go : (b : Bool) → length (filter (is_done_wire grammar) (map (wire_by grammar) packets)) ≡ length (filter is_done packets)
        → length (if b then wire_by grammar packet ∷ filter (is_done_wire grammar) (map (wire_by grammar) packets) else filter (is_done_wire grammar) (map (wire_by grammar) packets))
        ≡ length (if b then packet ∷ filter is_done packets else filter is_done packets)
    go true e = ap suc e
    go false e = e

pub few_of : {A : Type 0} (p : A → Bool) (xs : List A) → length (filter p xs) ≤ length xs
few_of p [] = omega arith
few_of p (x ∷ xs) = go (p x) (few_of p xs)
  where
    go : (b : Bool) → length (filter p xs) ≤ length xs → length (if b then x ∷ filter p xs else filter p xs) ≤ length (x ∷ xs)
    go true h = omega (arith, h)
    go false h = omega (arith, h)

-- what stands before the last n of those that come after others
count_is : (old ws n k : ℕ) → n ≤ ws → k ≡ ws - n → old + ws - n ≡ old + k
count_is old ws n k few is = omega (arith, few, is)

put_in : (n : ℕ) (old ws ms : List Wire) → n ≤ length ws → put_before n ms (old ++ ws) ≡ old ++ (take (length ws - n) ws ++ (ms ++ drop (length ws - n) ws))
put_in n old ws ms few =
    let k : ℕ = length ws - n in
    let at : length (old ++ ws) - n ≡ length old + k = ap (λ x. x - n) (length-append old ws) ∙ count_is (length old) (length ws) n k few refl in
    ap (λ x. take x (old ++ ws) ++ (ms ++ drop x (old ++ ws))) at
    ∙ (ap₂ (λ a b. a ++ (ms ++ b)) (take-append-add old ws k) (drop-append-add old ws k) ∙ append_assoc old (take k ws) (ms ++ drop k ws))

length_wires : (grammar : Grammar) (packets : List Packet) → length (map (wire_by grammar) packets) ≡ length packets
length_wires grammar [] = refl
length_wires grammar (packet ∷ packets) = ap suc (length_wires grammar packets)

pub plain_wires : (grammar : Grammar) (packets : List Packet) → map (outgoing_wire grammar) (map Plain packets) ≡ map (wire_by grammar) packets
plain_wires grammar [] = refl
plain_wires grammar (packet ∷ packets) = ap (λ l. wire_by grammar packet ∷ l) (plain_wires grammar packets)

pub plain_spelled : (grammar : Grammar) (packets : List Packet) → AllByRecursion (HasWireBy grammar) packets → AllByRecursion (HasOutgoingWire grammar) (map Plain packets)
plain_spelled grammar [] h = tt
plain_spelled grammar (packet ∷ packets) h = (h.0, plain_spelled grammar packets h.1)

out_wires : (grammar : Grammar) (boot : ℕ) (p : Point) (sent : List Mark) → map (outgoing_wire grammar) (marks_out boot p sent) ≡ mark_wires boot p.key sent
out_wires grammar boot p [] = refl
out_wires grammar boot p (mark ∷ sent) = ap (λ l. mark_wire (mark_message boot p.key mark) ∷ l) (out_wires grammar boot p sent)

out_spelled : (grammar : Grammar) (boot : ℕ) (p : Point) (sent : List Mark) → AllByRecursion (λ mark. marks.IsSpellable (mark_message boot p.key mark)) sent → AllByRecursion (HasOutgoingWire grammar) (marks_out boot p sent)
out_spelled grammar boot p [] h = tt
out_spelled grammar boot p (mark ∷ sent) h = (h.0, out_spelled grammar boot p sent h.1)

all_take : {A : Type 0} (P : A → Type 0) (k : ℕ) (xs : List A) → AllByRecursion P xs → AllByRecursion P (take k xs)
all_take P zero xs h = tt
all_take P (suc k) [] h = tt
all_take P (suc k) (x ∷ xs) h = (h.0, all_take P k xs h.1)

all_drop : {A : Type 0} (P : A → Type 0) (k : ℕ) (xs : List A) → AllByRecursion P xs → AllByRecursion P (drop k xs)
all_drop P zero xs h = h
all_drop P (suc k) [] h = tt
all_drop P (suc k) (x ∷ xs) h = all_drop P k xs h.1

-- packets with marks before the last n of them
with_wires : (grammar : Grammar) (n : ℕ) (ms : List Outgoing) (packets : List Packet)
    → map (outgoing_wire grammar) (with_marks n ms packets)
    ≡ take (length packets - n) (map (wire_by grammar) packets) ++ (map (outgoing_wire grammar) ms ++ drop (length packets - n) (map (wire_by grammar) packets))
with_wires grammar n ms packets =
    let k : ℕ = length packets - n in
    map-append (outgoing_wire grammar) (map Plain (take k packets)) (ms ++ map Plain (drop k packets))
    ∙ ap₂ ◌++◌ (plain_wires grammar (take k packets) ∙ sym (take-map (wire_by grammar) k packets))
    (map-append (outgoing_wire grammar) ms (map Plain (drop k packets)) ∙ ap (λ l. map (outgoing_wire grammar) ms ++ l) (plain_wires grammar (drop k packets) ∙ sym (drop-map (wire_by grammar) k packets)))

with_spelled : (grammar : Grammar) (n : ℕ) (ms : List Outgoing) (packets : List Packet) → AllByRecursion (HasWireBy grammar) packets → AllByRecursion (HasOutgoingWire grammar) ms → AllByRecursion (HasOutgoingWire grammar) (with_marks n ms packets)
with_spelled grammar n ms packets h m =
    let k : ℕ = length packets - n in
    all_append (HasOutgoingWire grammar) (map Plain (take k packets)) (ms ++ map Plain (drop k packets)) (plain_spelled grammar (take k packets) (all_take (HasWireBy grammar) k packets h))
    (all_append (HasOutgoingWire grammar) ms (map Plain (drop k packets)) m (plain_spelled grammar (drop k packets) (all_drop (HasWireBy grammar) k packets h)))

-- the marks of a point, among the packets of its place
pub put_out : (grammar : Grammar) (boot : ℕ) (key : Key) (p : Point) (sent : List Mark) (packets : List Packet) (old mid new : List Wire) → p.key ≡ key → mid ≡ old ++ map (wire_by grammar) packets → AllByRecursion (HasWireBy grammar) packets
    → SendsMarks grammar boot key (length old) sent mid new → AreOut grammar (with_marks (length (filter is_done packets)) (marks_out boot p sent) packets) old new
put_out grammar boot key p sent packets old mid new same is written s =
    let ws : List Wire = map (wire_by grammar) packets in
    let n : ℕ = length (filter is_done packets) in
    let ms : List Wire = mark_wires boot key sent in
    let few : n ≤ length packets = few_of is_done packets in
    let long : length ws ≡ length packets = length_wires grammar packets in
    let fits : n ≤ length ws = omega (arith, few, long) in
    let behind : drop (length old) mid ≡ ws = ap (drop (length old)) is ∙ drop-append_seam old ws in
    let count : length (filter (is_done_wire grammar) (drop (length old) mid)) ≡ n = ap (λ l. length (filter (is_done_wire grammar) l)) behind ∙ dones_are grammar packets written in
    let marks_are : ms ≡ map (outgoing_wire grammar) (marks_out boot p sent) = ap (λ k. mark_wires boot k sent) (sym same) ∙ sym (out_wires grammar boot p sent) in
    record {
      wires = s.wires
          ∙ (ap₂ (λ x l. put_before x ms l) count is
          ∙ (put_in n old ws ms fits
          ∙ (ap (λ x. old ++ (take (x - n) ws ++ (ms ++ drop (x - n) ws))) long
          ∙ (ap (λ l. old ++ (take (length packets - n) ws ++ (l ++ drop (length packets - n) ws))) marks_are
          ∙ ap (λ l. old ++ l) (sym (with_wires grammar n (marks_out boot p sent) packets))))));
      spelled = with_spelled grammar n (marks_out boot p sent) packets written
          (out_spelled grammar boot p sent (subst (λ k. AllByRecursion (λ mark. marks.IsSpellable (mark_message boot k mark)) sent) (sym same) s.spelled));
    }

pub plain_out : (grammar : Grammar) (packets : List Packet) (old new : List Wire) → new ≡ old ++ map (wire_by grammar) packets → AllByRecursion (HasWireBy grammar) packets → AreOut grammar (map Plain packets) old new
plain_out grammar packets old new is h = record { wires = is ∙ ap (λ l. old ++ l) (sym (plain_wires grammar packets)); spelled = plain_spelled grammar packets h }

-- one after the other
pub out_on : (grammar : Grammar) (first more : List Outgoing) (old mid new : List Wire) → AreOut grammar first old mid → AreOut grammar more mid new → AreOut grammar (first ++ more) old new
out_on grammar first more old mid new a b = record {
  wires = b.wires
      ∙ (ap (λ l. l ++ map (outgoing_wire grammar) more) a.wires
      ∙ (append_assoc old (map (outgoing_wire grammar) first) (map (outgoing_wire grammar) more) ∙ ap (λ l. old ++ l) (sym (map-append (outgoing_wire grammar) first more))));
  spelled = all_append (HasOutgoingWire grammar) first more a.spelled b.spelled;
}

pub out_none : (grammar : Grammar) (old : List Wire) → AreOut grammar [] old old
out_none grammar old = record { wires = sym (append-nil old); spelled = tt }

-- no marks change nothing
pub sends_none : (grammar : Grammar) (boot : ℕ) (key : Key) (from : ℕ) (old : List Wire) → SendsMarks grammar boot key from [] old old
sends_none grammar boot key from old =
    record { wires = sym (take-append-drop (length old - length (filter (is_done_wire grammar) (drop from old))) old); spelled = tt }
