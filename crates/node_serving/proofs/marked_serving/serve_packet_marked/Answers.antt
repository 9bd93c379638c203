use Rattle.std.proofs.Common.{rules, ◌≡◌, ◌∙◌, ◌&&◌, true, false, true≢false, refl, sym, ap, subst, List}
use Rattle.std.proofs.lemmas.Result.{on_ok_weaker}
use Rattle.segment_codec.specs.Value.{segment_of}
use Rattle.ft_model.specs.Network.{source_of}
use Rattle.ft_model.specs.Node.{is_for, place_at}
use Rattle.ft_model.specs.Node.Input.{Packet_comes}
use Rattle.ft_model.specs.Wire.{Wire}
use Rattle.conn_marks.specs.Settled.{MarksPlace}
use Rattle.node_serving.specs.Identity.{node_of, service_of, grammar_in}
use Rattle.node_serving.specs.Markers.{saving, marker_of, node_at}
use Rattle.node_serving.specs.MarkedServing.{ServingGoesMarked}
use Rattle.node_serving.specs.ServingStage.{ServingGoes}
use Rattle.node_serving.proofs.MarkedServed.{served_marked, served_elsewhere, payload_bytes}
use Rattle.node_serving.proofs.SegmentArrival.{only_its_client}
use Rattle.ft_io.specs.Key.{key_eq}
use Rattle.ft_model.proofs.Lists.{key_is}
use Rattle.mark_laws.specs.MarkedNode.MarkedInput.{Plain_comes}
use Rattle.node_serving.specs.MarkedAlone.{MarksOnly}
use Rattle.node_serving.proofs.Among.{goes_beside, goes_unmarked}
use Rattle.node_serving.proofs.marked_serving.serve_packet_marked.Goals as goal

pub returns-clause-turn : goal.returns-clause-turn
returns-clause-turn g c =
    let reported = rw c.in_ok-serve_bytes.was at c.serve_bytes.ensures.turn in
    let segment = segment_of c.args.segment.now in
    on_ok_weaker c.mark_key.result
    (λ marked every standing awaits marking opened places near keeps settled st.
    let by = marker_of g.S.Service (saving g.S.Saved.form g.S.Saved.state_of g.S.Saved.is_savable) c.args.who every in
    let goes = subst (λ (l : List Wire). ServingGoes by.service (node_of c.args.who standing) (Packet_comes segment) opened places c.serve_bytes.new.serving l c.serve_bytes.new.turn.sent.items) c.requires.empty (reported standing opened places near st) in
    subst (λ (l : List Wire). ServingGoesMarked by (node_at c.args.who standing awaits marking) (Packet_comes segment) opened places c.serve_bytes.new.serving c.mark_key.new.marks l c.mark_key.new.turn.sent.items) (sym c.requires.empty)
    (served_marked by c.args.who standing awaits marking (Packet_comes segment) (source_of segment) opened places c.args.serving.now.slots.entries c.serve_bytes.new.serving c.args.marks.now c.mark_key.new.marks
    c.serve_bytes.new.turn.sent.items c.mark_key.new.turn.sent.items (only_its_client (node_of c.args.who standing) segment) refl (payload_bytes c.args.packet.now segment c.requires.read c.fit.ensures) st.slots c.apart.ensures keeps settled goes
    (λ ps all. subst (λ k. MarksPlace by (grammar_in c.args.who) c.args.who.boot k 0 (place_at k ps) c.args.marks.now c.mark_key.new.marks c.serve_bytes.new.turn.sent.items c.mark_key.new.turn.sent.items) c.sender.ensures
    (marked every standing ps keeps.every all)))) c.mark_key.ensures.turn

-- one for another server
pub returns-then-not-is_for-clause-turn : goal.returns-then-not-is_for-clause-turn
returns-then-not-is_for-clause-turn g c = λ every standing awaits marking opened places near keeps settled st.
    let reported = rw c.in_ok-serve_bytes.was at c.serve_bytes.ensures.turn in
    let segment = segment_of c.args.segment.now in
    let by = marker_of g.S.Service (saving g.S.Saved.form g.S.Saved.state_of g.S.Saved.is_savable) c.args.who every in
    let other : is_for c.args.who.local segment ≡ false = sym c.is_for.ensures ∙ search rules in
    let goes = subst (λ (l : List Wire). ServingGoes by.service (node_of c.args.who standing) (Packet_comes segment) opened places c.serve_bytes.new.serving l c.serve_bytes.new.turn.sent.items) c.requires.empty (reported standing opened places near st) in
    subst (λ (l : List Wire). ServingGoesMarked by (node_at c.args.who standing awaits marking) (Packet_comes segment) opened places c.serve_bytes.new.serving c.args.marks.now l c.serve_bytes.new.turn.sent.items) (sym c.requires.empty)
    (served_elsewhere by c.args.who standing awaits marking segment opened places c.args.serving.now.slots.entries c.serve_bytes.new.serving c.args.marks.now
    c.serve_bytes.new.turn.sent.items other (payload_bytes c.args.packet.now segment c.requires.read c.fit.ensures) st.slots c.apart.ensures keeps settled goes)

pub returns-then-not-is_for-clause-alone : goal.returns-then-not-is_for-clause-alone
returns-then-not-is_for-clause-alone g c = λ standing.
    let reported = rw c.in_ok-serve_bytes.was at c.serve_bytes.ensures.alone in
    goes_unmarked (service_of g.S.Service c.args.who) (node_of c.args.who standing) (Plain_comes (Packet_comes (segment_of c.args.segment.now))) c.args.serving.now c.serve_bytes.new.serving c.args.marks.now
    c.args.turn.now.sent.items c.serve_bytes.new.turn.sent.items (reported standing)

pub returns-then-not-is_for-clause-untouched : goal.returns-then-not-is_for-clause-untouched
returns-then-not-is_for-clause-untouched g c = λ other.
    let reported = rw c.in_ok-serve_bytes.was at c.serve_bytes.ensures.untouched in
    let same = reported other in (same.0, refl, same.1)

pub returns-clause-alone : goal.returns-clause-alone
returns-clause-alone g c =
    let reported = rw c.in_ok-serve_bytes.was at c.serve_bytes.ensures.alone in
    let segment = segment_of c.args.segment.now in
    let mine : is_for c.args.who.local segment ≡ true = sym c.is_for.ensures ∙ search rules in
    let about : (is_for c.args.who.local segment && key_eq (source_of segment) (source_of segment)) ≡ true =
    ap (λ b. b && key_eq (source_of segment) (source_of segment)) mine ∙ key_is (source_of segment) in
    on_ok_weaker c.mark_key.result
    (λ marks standing.
    goes_beside (service_of g.S.Service c.args.who) (node_of c.args.who standing) (Plain_comes (Packet_comes segment)) (source_of segment) c.args.serving.now c.serve_bytes.new.serving c.args.marks.now c.mark_key.new.marks
    c.args.turn.now.sent.items c.serve_bytes.new.turn.sent.items c.mark_key.new.turn.sent.items about (reported standing)
    (subst (λ k. MarksOnly c.args.who.boot k c.args.marks.now c.mark_key.new.marks c.serve_bytes.new.turn.sent.items c.mark_key.new.turn.sent.items) c.sender.ensures marks)) c.mark_key.ensures.alone

pub returns-clause-untouched : goal.returns-clause-untouched
returns-clause-untouched g c =
    let mine : is_for c.args.who.local (segment_of c.args.segment.now) ≡ true = sym c.is_for.ensures ∙ search rules in
    on_ok_weaker c.mark_key.result (λ marks other. absurd (true≢false (sym mine ∙ other))) c.mark_key.ensures.alone
