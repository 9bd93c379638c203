-- A text tells a turn where it has the turn's packet lines and no further one.
use Rattle.std.proofs.Common.{◌≡◌, ℕ, ◌+◌, ◌-◌, ◌<◌, ◌≤◌, Bool, true, false, List, [], ◌∷◌, ◌++◌, codes, take, drop, length, length-append, length-drop, refl, sym, ap, ◌∙◌, subst, arith, true≢false}
use Rattle.std.specs.Prelude.{IsTrue, ◌↔◌, nat_eq}
use Rattle.std.specs.List.{concat, starts_with}
use Rattle.std.proofs.lemmas.Bool.Decides.{Decides-eqb}
use Rattle.std.proofs.lemmas.List.{take-append-drop, take_rest, drop-take, drop-append-le, length-take-le}
use Rattle.std.proofs.lemmas.Slice.Eq.{starts_is}
use Rattle.std.proofs.Math.Seq.{take-append_seam}
use Rattle.ft_model.specs.Client.{Client}
use Rattle.ft_model.specs.Network.{Packet}
use Rattle.ft_model.specs.Report.{packet_line, packet_lines, way_of}
use Rattle.ft_model.specs.Wire.{Wire}
use Rattle.ft_model.specs.declared.schedule.Schedule.{Schedule}
use Rattle.ft_model.specs.declared.way.Way.{Way}
use Rattle.report_laws.specs.Lines.{lines_in}
use Rattle.report_laws.specs.Transitions.{IsPacketLine, begins_with, clients_in}
use Rattle.report_laws.proofs.LineLemmas.{lines_join}
use Rattle.trace_check.specs.SentLines.{CanBeRead, wire_lines}
use Rattle.trace_check.specs.Turn.{AreSent, EndsTurn, IsReported, ReportsTurn}
use Rattle.trace_check.proofs.SentLines.{lines_are, can_be_read}

packet_begins : (n : ℕ) (way : Way) (packet : Packet) (more : List ℕ) → begins_with (codes "packet ") (packet_line n way packet ++ more) ≡ true
unfolding packet_line
packet_begins n way packet more = refl

-- a text that doesn't begin as a packet's line has no such line first
no_line : (schedule : Schedule) (n : ℕ) (rest : List ℕ) (lines : List (List ℕ)) → lines_in rest ≡ lines → begins_with (codes "packet ") rest ≡ false → EndsTurn schedule n lines
no_line schedule n rest [] cut none = tt
no_line schedule n rest (line ∷ lines) cut none = λ packet is.
    let whole : rest ≡ packet_line n (way_of (clients_in schedule) packet) packet ++ concat lines =
    sym (lines_join rest) ∙ (ap concat cut ∙ ap (λ l. l ++ concat lines) is.spelled) in
    true≢false (sym (packet_begins n (way_of (clients_in schedule) packet) packet (concat lines)) ∙ (ap (begins_with (codes "packet ")) (sym whole) ∙ none))

pub no_packet_begins : (schedule : Schedule) (n : ℕ) (text : List ℕ) (at : ℕ) → begins_with (codes "packet ") (drop at text) ≡ false → EndsTurn schedule n (lines_in (drop at text))
no_packet_begins schedule n text at none = no_line schedule n (drop at text) (lines_in (drop at text)) refl none

pub packet_follows : (schedule : Schedule) (text line : List ℕ) (more : List (List ℕ)) (at n : ℕ) (test : Bool) → lines_in (drop at text) ≡ line ∷ more
    → (IsTrue test ↔ ((packet : Packet) × IsPacketLine schedule n packet line)) → test ≡ true → EndsTurn schedule n (lines_in (drop at text)) → ⊥
packet_follows schedule text line more at n test cut iff true_so ends =
    let found : (packet : Packet) × IsPacketLine schedule n packet line = iff.0 true_so in
    let none : EndsTurn schedule n (line ∷ more) = subst (EndsTurn schedule n) cut ends in
    none found.0 found.1

-- what is due follows a place
begins_is : (text due : List ℕ) → starts_with nat_eq text due ≡ true → text ≡ due ++ drop (length due) text
begins_is text due e = (starts_is Decides-eqb text due (starts_with nat_eq text due) refl).0 e

begins_so : (text due rest : List ℕ) → text ≡ due ++ rest → starts_with nat_eq text due ≡ true
begins_so text due rest e = (starts_is Decides-eqb text due (starts_with nat_eq text due) refl).1 rest e

pub due_is_reported : (text due : List ℕ) (schedule : Schedule) (from n : ℕ) → from + length due ≤ length text → starts_with nat_eq (drop from text) due ≡ true
    → EndsTurn schedule n (lines_in (drop (from + length due) text)) → IsReported text schedule from (from + length due) n due
due_is_reported text due schedule from n within begins ends = record {
  begins = omega arith;
  within = within;
  reported = drop-take from (length due) text
      ∙ (ap (take (length due)) (begins_is (drop from text) due begins) ∙ take-append_seam due (drop (length due) (drop from text)));
  ends = ends;
}

pub other_is_due : (text due : List ℕ) (schedule : Schedule) (from n : ℕ) → starts_with nat_eq (drop from text) due ≡ false
    → (end : ℕ) → IsReported text schedule from end n due → ⊥
other_is_due text due schedule from n other end t =
    let size : length (take end text) ≡ end = length-take-le end text t.within in
    let begins : from ≤ end = t.begins in
    let whole : drop from text ≡ due ++ drop end text =
    ap (drop from) (sym (take-append-drop end text)) ∙ (drop-append-le from (take end text) (drop end text) (omega (arith, size, begins)) ∙ ap (λ t. t ++ drop end text) t.reported) in
    true≢false (sym (begins_so (drop from text) due (drop end text) whole) ∙ other)

-- what is told ends where it is long enough
reported_to : (text due : List ℕ) (from end : ℕ) → from ≤ end → end ≤ length text → drop from (take end text) ≡ due → end ≡ from + length due
reported_to text due from end begins within reported =
    let size : length (take end text) ≡ end = length-take-le end text within in
    let rest : length (drop from (take end text)) ≡ length (take end text) - from = length-drop from (take end text) in
    let same : length (drop from (take end text)) ≡ length due = ap length reported in
    omega (arith, size, rest, same, begins)

pub more_is_due : (text due : List ℕ) (schedule : Schedule) (from n : ℕ) → (EndsTurn schedule n (lines_in (drop (from + length due) text)) → ⊥)
    → (end : ℕ) → IsReported text schedule from end n due → ⊥
more_is_due text due schedule from n more end t =
    more (subst (λ k. EndsTurn schedule n (lines_in (drop k text))) (reported_to text due from end t.begins t.within t.reported) t.ends)

-- each packet's line has a byte at least
line_some : (n : ℕ) (way : Way) (packet : Packet) → 1 ≤ length (packet_line n way packet)
unfolding packet_line
line_some n way packet = omega arith

pub few_lines : (clients : List Client) (n : ℕ) (sent : List Packet) → length sent ≤ length (packet_lines clients n sent)
few_lines clients n [] = omega arith
few_lines clients n (packet ∷ sent) =
    let first : 1 ≤ length (packet_line n (way_of clients packet) packet) = line_some n (way_of clients packet) packet in
    let rest : length sent ≤ length (packet_lines clients (n + 1) sent) = few_lines clients (n + 1) sent in
    let both : length (packet_line n (way_of clients packet) packet ++ packet_lines clients (n + 1) sent)
    ≡ length (packet_line n (way_of clients packet) packet) + length (packet_lines clients (n + 1) sent) =
    length-append (packet_line n (way_of clients packet) packet) (packet_lines clients (n + 1) sent) in
    omega (arith, first, rest, both)

-- the wires of a turn are written as the lines of its packets
pub sent_is_due : (schedule : Schedule) (wires : List Wire) (before first : ℕ) (sent : List Packet) (due : List ℕ) → AreSent wires before sent
    → due ≡ wire_lines (clients_in schedule) first (drop before wires) → due ≡ packet_lines (clients_in schedule) first sent
sent_is_due schedule wires before first sent due a e =
    e ∙ (ap (wire_lines (clients_in schedule) first) a.wires_are ∙ lines_are (clients_in schedule) first sent a.have)

pub sent_can_be_read : (schedule : Schedule) (wires : List Wire) (before : ℕ) (sent : List Packet) → AreSent wires before sent → CanBeRead (clients_in schedule) (drop before wires)
sent_can_be_read schedule wires before sent a = subst (CanBeRead (clients_in schedule)) (sym a.wires_are) (can_be_read (clients_in schedule) sent a.have)

pub turn_is_reported : (text : List ℕ) (schedule : Schedule) (from end n before : ℕ) (wires : List Wire) (sent : List Packet) (due : List ℕ) → AreSent wires before sent
    → length wires ≤ 200000 → n ≡ length wires + 1 → due ≡ wire_lines (clients_in schedule) (before + 1) (drop before wires)
    → IsReported text schedule from end n due → ReportsTurn text schedule from end (before + 1) sent
turn_is_reported text schedule from end n before wires sent due a few number e t =
    let count : length wires ≡ before + length sent = a.count in
    let next : n ≡ (before + 1) + length sent = omega (arith, count, number) in
    record {
      is = subst (λ k. IsReported text schedule from end k (packet_lines (clients_in schedule) (before + 1) sent)) next
          (subst (IsReported text schedule from end n) (sent_is_due schedule wires before (before + 1) sent due a e) t);
      few = omega (arith, count, few);
    }

pub turn_is_not_reported : (text : List ℕ) (schedule : Schedule) (from n before : ℕ) (wires : List Wire) (sent : List Packet) (due : List ℕ) → AreSent wires before sent
    → n ≡ length wires + 1 → due ≡ wire_lines (clients_in schedule) (before + 1) (drop before wires)
    → ((end : ℕ) → IsReported text schedule from end n due → ⊥) → (end : ℕ) → ReportsTurn text schedule from end (before + 1) sent → ⊥
turn_is_not_reported text schedule from n before wires sent due a number e never end t =
    let count : length wires ≡ before + length sent = a.count in
    let next : n ≡ (before + 1) + length sent = omega (arith, count, number) in
    never end (subst (IsReported text schedule from end n) (sym (sent_is_due schedule wires before (before + 1) sent due a e))
    (subst (λ k. IsReported text schedule from end k (packet_lines (clients_in schedule) (before + 1) sent)) (sym next) t.is))

pub too_many_are_not_reported : (text : List ℕ) (schedule : Schedule) (from before : ℕ) (wires : List Wire) (sent : List Packet) → AreSent wires before sent → 200000 < length wires
    → (end : ℕ) → ReportsTurn text schedule from end (before + 1) sent → ⊥
too_many_are_not_reported text schedule from before wires sent a many end t =
    let count : length wires ≡ before + length sent = a.count in
    let few : (before + 1) + length sent ≤ 200001 = t.few in
    omega (arith, count, few, many)

-- what is told of a turn has a byte at least for each packet
pub reported_within : (text : List ℕ) (schedule : Schedule) (from end first : ℕ) (sent : List Packet) → ReportsTurn text schedule from end first sent → from + length sent ≤ end
reported_within text schedule from end first sent t =
    let ends : end ≡ from + length (packet_lines (clients_in schedule) first sent) =
    reported_to text (packet_lines (clients_in schedule) first sent) from end t.is.begins t.is.within t.is.reported in
    let few : length sent ≤ length (packet_lines (clients_in schedule) first sent) = few_lines (clients_in schedule) first sent in
    omega (arith, ends, few)

-- the lines of the wires after the first ones are written
pub due_is_written : (clients : List Client) (first before : ℕ) (all wires : List Wire) (old new due : List ℕ) → all ≡ wires → old ≡ [] → due ≡ new
    → new ≡ old ++ wire_lines clients first (take (length all - before) (drop before all)) → due ≡ wire_lines clients first (drop before wires)
due_is_written clients first before all wires old new due same empty kept written =
    kept ∙ (written ∙ (ap (λ t. t ++ wire_lines clients first (take (length all - before) (drop before all))) empty
    ∙ (ap (wire_lines clients first) (take_rest all before) ∙ ap (λ ws. wire_lines clients first (drop before ws)) same)))
