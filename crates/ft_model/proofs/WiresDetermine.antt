-- Bytes tell what they spell: reading gives the packet back.
use Rattle.std.proofs.Common.{◌≡◌, ℕ, ◌+◌, ◌*◌, arith, refl, sym, ap, ◌∙◌, subst, subst₂, List, [], ◌∷◌, ◌++◌, map, Ok, Result}
use Rattle.std.specs.List.{AllByRecursion}
use Rattle.seq_arith.specs.Packet.{Segment}
use Rattle.seq_arith.specs.Message.{Message}
use Rattle.seq_arith.specs.PacketGrammar as segments
use Rattle.seq_arith.specs.MessageGrammar as messages
use Rattle.seq_arith.proofs.Spelling.{spelling_is_read}
use Rattle.seq_arith.proofs.MessageSpelling.{message_is_read}
use Rattle.server_trait.specs.Service.{Machine}
use Rattle.ft_model.specs.Network.{Packet}
use Rattle.ft_model.specs.Network.Packet.{To_server, To_client, To_logger, From_logger}
use Rattle.seq_arith.specs.declared.kinds.Grammar.{Grammar}
use Rattle.ft_model.specs.Wire.{Party, Wire, wire_by, CanBeSent, CanBeWrittenBy, HasWireBy}
use Rattle.ft_model.specs.Wire.Party.{A_client, The_server, The_logger}
use Rattle.ft_model.specs.World.{Moment, events_of, Joint}
use Rattle.ft_model.specs.Image.{wires_of, HasWires}
use Rattle.ft_model.specs.Schedule.{kind_of}
use Rattle.ft_model.specs.Legal.{Legal, start_of, AllAllowed}
use Rattle.ft_model.specs.Report.{turns_of}
use Rattle.ft_model.specs.declared.schedule.Schedule.{Schedule}
use Rattle.ft_model.proofs.OneTrace.{traces_once}

ok_same : {A E : Type 0} (x y : A) → ◌≡◌ {A = Result A E} (Ok x) (Ok y) → x ≡ y
ok_same x y e = cc

segment_reported : (s t : Segment) → CanBeSent s → CanBeSent t → segments.spelling s ≡ segments.spelling t → s ≡ t
segment_reported s t p q e = ok_same s t (sym (spelling_is_read s p.0) ∙ (ap segments.reading e ∙ spelling_is_read t q.0))

message_reported : (grammar : Grammar) (m n : Message) → CanBeWrittenBy grammar m → CanBeWrittenBy grammar n → messages.spelling_by grammar m ≡ messages.spelling_by grammar n → m ≡ n
message_reported grammar m n p q e = ok_same m n (sym (message_is_read m p.0) ∙ (ap (messages.reading_by grammar) e ∙ message_is_read n q.0))

-- the four ways, told by their ends
end_of : Party → ℕ
end_of (A_client key) = 0
end_of The_server = 1
end_of The_logger = 2

way_reported : (w v : Wire) → w ≡ v → 3 * end_of w.from + end_of w.to ≡ 3 * end_of v.from + end_of v.to
way_reported w v e = ap (λ x. 3 * end_of x.from + end_of x.to) e

pub packet_reported : (grammar : Grammar) (p q : Packet) → HasWireBy grammar p → HasWireBy grammar q → wire_by grammar p ≡ wire_by grammar q → p ≡ q
unfolding end_of
packet_reported grammar (To_server s) (To_server t) p q e = ap To_server (segment_reported s t p q (ap (λ w. w.bytes) e))
packet_reported grammar (To_client s) (To_client t) p q e = ap To_client (segment_reported s t p q (ap (λ w. w.bytes) e))
packet_reported grammar (To_logger m) (To_logger n) p q e = ap To_logger (message_reported grammar m n p q (ap (λ w. w.bytes) e))
packet_reported grammar (From_logger m) (From_logger n) p q e = ap From_logger (message_reported grammar m n p q (ap (λ w. w.bytes) e))
packet_reported grammar (To_server s) (To_client t) p q e = absurd (let w = way_reported (wire_by grammar (To_server s)) (wire_by grammar (To_client t)) e in omega (arith, w))
packet_reported grammar (To_server s) (To_logger t) p q e = absurd (let w = way_reported (wire_by grammar (To_server s)) (wire_by grammar (To_logger t)) e in omega (arith, w))
packet_reported grammar (To_server s) (From_logger t) p q e = absurd (let w = way_reported (wire_by grammar (To_server s)) (wire_by grammar (From_logger t)) e in omega (arith, w))
packet_reported grammar (To_client s) (To_server t) p q e = absurd (let w = way_reported (wire_by grammar (To_client s)) (wire_by grammar (To_server t)) e in omega (arith, w))
packet_reported grammar (To_client s) (To_logger t) p q e = absurd (let w = way_reported (wire_by grammar (To_client s)) (wire_by grammar (To_logger t)) e in omega (arith, w))
packet_reported grammar (To_client s) (From_logger t) p q e = absurd (let w = way_reported (wire_by grammar (To_client s)) (wire_by grammar (From_logger t)) e in omega (arith, w))
packet_reported grammar (To_logger s) (To_server t) p q e = absurd (let w = way_reported (wire_by grammar (To_logger s)) (wire_by grammar (To_server t)) e in omega (arith, w))
packet_reported grammar (To_logger s) (To_client t) p q e = absurd (let w = way_reported (wire_by grammar (To_logger s)) (wire_by grammar (To_client t)) e in omega (arith, w))
packet_reported grammar (To_logger s) (From_logger t) p q e = absurd (let w = way_reported (wire_by grammar (To_logger s)) (wire_by grammar (From_logger t)) e in omega (arith, w))
packet_reported grammar (From_logger s) (To_server t) p q e = absurd (let w = way_reported (wire_by grammar (From_logger s)) (wire_by grammar (To_server t)) e in omega (arith, w))
packet_reported grammar (From_logger s) (To_client t) p q e = absurd (let w = way_reported (wire_by grammar (From_logger s)) (wire_by grammar (To_client t)) e in omega (arith, w))
packet_reported grammar (From_logger s) (To_logger t) p q e = absurd (let w = way_reported (wire_by grammar (From_logger s)) (wire_by grammar (To_logger t)) e in omega (arith, w))

first_of_pair : {A B : Type 0} (p q : A × B) → p ≡ q → p.0 ≡ q.0
first_of_pair p q e = ap (λ x. x.0) e

second_of_pair : {A B : Type 0} (p q : A × B) → p ≡ q → p.1 ≡ q.1
second_of_pair p q e = ap (λ x. x.1) e

packets_reported : (grammar : Grammar) (ps qs : List Packet) → AllByRecursion (HasWireBy grammar) ps → AllByRecursion (HasWireBy grammar) qs → map (wire_by grammar) ps ≡ map (wire_by grammar) qs → ps ≡ qs
packets_reported grammar [] [] a b e = refl
packets_reported grammar [] (q ∷ qs) a b e = absurd (cc)
packets_reported grammar (p ∷ ps) [] a b e = absurd (cc)
packets_reported grammar (p ∷ ps) (q ∷ qs) a b e =
    let first : p ≡ q = packet_reported grammar p q a.0 b.0 (cc) in
    let others : ps ≡ qs = packets_reported grammar ps qs a.1 b.1 (cc) in cc

pub turns_reported : (grammar : Grammar) (trace also : List Moment) → AllByRecursion (HasWires grammar) trace → AllByRecursion (HasWires grammar) also → wires_of grammar trace ≡ wires_of grammar also → turns_of trace ≡ turns_of also
turns_reported grammar [] [] a b e = refl
turns_reported grammar [] (n ∷ older) a b e = absurd (cc)
turns_reported grammar (m ∷ earlier) [] a b e = absurd (cc)
turns_reported grammar (m ∷ earlier) (n ∷ older) a b e =
    let heads : (m.event, map (wire_by grammar) m.sent) ≡ (n.event, map (wire_by grammar) n.sent) = cc in
    let event : m.event ≡ n.event = first_of_pair (m.event, map (wire_by grammar) m.sent) (n.event, map (wire_by grammar) n.sent) heads in
    let sent : m.sent ≡ n.sent = packets_reported grammar m.sent n.sent a.0 b.0 (second_of_pair (m.event, map (wire_by grammar) m.sent) (n.event, map (wire_by grammar) n.sent) heads) in
    let others : turns_of earlier ≡ turns_of older = turns_reported grammar earlier older a.1 b.1 (cc) in cc

events_reported : (grammar : Grammar) (trace also : List Moment) → wires_of grammar trace ≡ wires_of grammar also → events_of trace ≡ events_of also
events_reported grammar [] [] e = refl
events_reported grammar [] (n ∷ older) e = absurd (cc)
events_reported grammar (m ∷ earlier) [] e = absurd (cc)
events_reported grammar (m ∷ earlier) (n ∷ older) e =
    let heads : (m.event, map (wire_by grammar) m.sent) ≡ (n.event, map (wire_by grammar) n.sent) = cc in
    let event : m.event ≡ n.event = first_of_pair (m.event, map (wire_by grammar) m.sent) (n.event, map (wire_by grammar) n.sent) heads in
    let rest : wires_of grammar earlier ≡ wires_of grammar older = cc in
    let others : events_of earlier ≡ events_of older = events_reported grammar earlier older rest in
    ap (λ x. events_of earlier ++ x ∷ []) event ∙ ap (λ x. x ++ n.event ∷ []) others

pub trace_reported : {State : Type 0} (service : ℕ → Machine State) (grammar : Grammar) (schedule other : Schedule) (trace also : List Moment) → schedule.service ≡ other.service → start_of schedule ≡ start_of other
    → Legal service schedule trace → Legal service other also → wires_of grammar trace ≡ wires_of grammar also → trace ≡ also
trace_reported service grammar schedule other trace also named same l k e =
    traces_once (service (kind_of schedule.service)) (start_of schedule) trace also l.joint (subst₂ (λ name w. Joint (service (kind_of name)) w also) (sym named) (sym same) k.joint) l.allowed
    (subst (λ w. AllAllowed w also) (sym same) k.allowed) (events_reported grammar trace also e)
