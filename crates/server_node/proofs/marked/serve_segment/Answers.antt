use Rattle.std.proofs.Common.{refl, sym, subst, List}
use Rattle.segment_codec.specs.Value.{segment_of}
use Rattle.ft_model.specs.Lawful.{AreNear, held}
use Rattle.ft_model.specs.Node.Input.{Packet_comes}
use Rattle.ft_model.specs.Wire.{Wire}
use Rattle.mark_laws.specs.MarkedNode.MarkedInput.{Plain_comes}
use Rattle.node_serving.specs.Identity.{node_of, service_of, grammar_in}
use Rattle.node_serving.specs.Markers.{saving, marker_of, node_at}
use Rattle.node_serving.specs.MarkedServing.{ServingGoesMarked}
use Rattle.server_node.specs.MarkedTurns.{TurnsOn, MarkedStands}
use Rattle.node_serving.specs.SentBytes.{ArePut}
use Rattle.server_node.proofs.MarkedFetch.{asking_rests, held_at}
use Rattle.server_node.proofs.MarkedInputs.{served_at}
use Rattle.ft_io.proofs.Booleans.{not_true}
use Rattle.ft_model.specs.Node.{is_for}
use Rattle.server_node.specs.declared.marked.MarkedStage.TheVariants as marked
use Rattle.server_node.specs.MarkedApart.{MarkedApart}
use Rattle.server_node.proofs.MarkedApart.{asking_beside, held_beside, serving_beside}
use Rattle.server_node.proofs.marked.serve_segment.Goals as goal

pub returns-in-Asking-clause-turn : goal.returns-in-Asking-clause-turn
returns-in-Asking-clause-turn g c = λ every standing awaits marking bytes lengths unfenced fair st.
    let by = marker_of g.S.Service (saving g.S.Saved.form g.S.Saved.state_of g.S.Saved.is_savable) c.args.who every in
    let here = subst (λ s. MarkedStands by (node_at c.args.who standing awaits marking) (record { stage = s; marks = c.args.node.marks })) c.in-Asking.is st in
    subst (λ n. TurnsOn by c.args.who bytes lengths (node_at c.args.who standing awaits marking) (Plain_comes (Packet_comes (segment_of c.args.segment.now))) n c.args.turn.now.sent.items) (sym c.asking.ensures)
    (asking_rests by c.args.who (Packet_comes (segment_of c.args.segment.now)) standing awaits marking bytes lengths c.args.node.marks c.args.turn.now.sent.items unfenced (refl, refl) c.requires.empty here)

pub returns-in_ok-hold-in-Fetching-clause-turn : goal.returns-in_ok-hold-in-Fetching-clause-turn
returns-in_ok-hold-in-Fetching-clause-turn g c = λ every standing awaits marking bytes lengths unfenced fair st.
    let by = marker_of g.S.Service (saving g.S.Saved.form g.S.Saved.state_of g.S.Saved.is_savable) c.args.who every in
    let here = subst (λ s. MarkedStands by (node_at c.args.who standing awaits marking) (record { stage = s; marks = c.args.node.marks })) c.in-Fetching.is st in
    let reported = rw c.in_ok-hold-in-Fetching.was at c.hold.ensures.held in
    subst (λ n. TurnsOn by c.args.who bytes lengths (node_at c.args.who standing awaits marking) (Plain_comes (Packet_comes (segment_of c.args.segment.now))) n c.hold.new.turn.sent.items) (sym c.fetching_on.ensures)
    (held_at by c.args.who (segment_of c.args.segment.now) standing awaits marking bytes lengths c.in-Fetching.fetching c.args.node.marks c.hold.new.turn.sent.items
    (λ count fetched stands. subst (λ (l : List Wire). ArePut (grammar_in c.args.who) (held (node_of c.args.who standing) fetched (segment_of c.args.segment.now)) l c.hold.new.turn.sent.items) c.requires.empty (reported standing count fetched stands)) here)

pub returns-in_ok-serve_packet_marked-in-Serving-clause-turn : goal.returns-in_ok-serve_packet_marked-in-Serving-clause-turn
returns-in_ok-serve_packet_marked-in-Serving-clause-turn g c = λ every standing awaits marking bytes lengths unfenced fair st.
    let by = marker_of g.S.Service (saving g.S.Saved.form g.S.Saved.state_of g.S.Saved.is_savable) c.args.who every in
    let here = subst (λ s. MarkedStands by (node_at c.args.who standing awaits marking) (record { stage = s; marks = c.args.node.marks })) c.in-Serving.is st in
    let reported = rw c.in_ok-serve_packet_marked-in-Serving.was at c.serve_packet_marked.ensures.turn in
    subst (λ n. TurnsOn by c.args.who bytes lengths (node_at c.args.who standing awaits marking) (Plain_comes (Packet_comes (segment_of c.args.segment.now))) n c.serve_packet_marked.new.turn.sent.items) (sym c.serving_on.ensures)
    (served_at by c.args.who (Packet_comes (segment_of c.args.segment.now)) standing awaits marking c.in-Serving.serving c.serve_packet_marked.new.serving c.args.node.marks c.serve_packet_marked.new.marks bytes lengths c.serve_packet_marked.new.turn.sent.items unfenced
    (λ opened places is keeps settled stands.
    subst (λ (l : List Wire). ServingGoesMarked by (node_at c.args.who standing awaits marking) (Packet_comes (segment_of c.args.segment.now)) opened places c.serve_packet_marked.new.serving c.serve_packet_marked.new.marks l c.serve_packet_marked.new.turn.sent.items) c.requires.empty
    (reported every standing awaits marking opened places (subst (AreNear c.args.who.local (segment_of c.args.segment.now)) is fair.near) keeps settled stands)) here)

pub returns-in-Asking-clause-apart : goal.returns-in-Asking-clause-apart
returns-in-Asking-clause-apart g c = λ standing.
    let service = service_of g.S.Service c.args.who in
    let node = node_of c.args.who standing in
    subst (λ s. MarkedApart service node (Plain_comes (Packet_comes (segment_of c.args.segment.now))) (record { stage = s; marks = c.args.node.marks }) c.asking.result c.args.turn.now.sent.items) (sym c.in-Asking.is)
    (asking_beside service node (Plain_comes (Packet_comes (segment_of c.args.segment.now))) c.args.node.marks c.asking.result c.args.turn.now.sent.items (λ nobody. (c.asking.ensures, c.requires.empty)))

pub returns-in_ok-hold-in-Fetching-clause-apart : goal.returns-in_ok-hold-in-Fetching-clause-apart
returns-in_ok-hold-in-Fetching-clause-apart g c = λ standing.
    let service = service_of g.S.Service c.args.who in
    let node = node_of c.args.who standing in
    let alone = rw c.in_ok-hold-in-Fetching.was at c.hold.ensures.alone in
    let silent = rw c.in_ok-hold-in-Fetching.was at c.hold.ensures.silent in
    subst (λ s. MarkedApart service node (Plain_comes (Packet_comes (segment_of c.args.segment.now))) (record { stage = s; marks = c.args.node.marks }) c.fetching_on.result c.hold.new.turn.sent.items) (sym c.in-Fetching.is)
    (subst (λ n. MarkedApart service node (Plain_comes (Packet_comes (segment_of c.args.segment.now))) (record { stage = marked.Fetching c.in-Fetching.fetching; marks = c.args.node.marks }) n c.hold.new.turn.sent.items) (sym c.fetching_on.ensures)
    (held_beside service node (segment_of c.args.segment.now) c.in-Fetching.fetching c.args.node.marks c.args.turn.now.sent.items c.hold.new.turn.sent.items c.requires.empty alone silent))

pub returns-in_ok-serve_packet_marked-in-Serving-clause-apart : goal.returns-in_ok-serve_packet_marked-in-Serving-clause-apart
returns-in_ok-serve_packet_marked-in-Serving-clause-apart g c = λ standing.
    let service = service_of g.S.Service c.args.who in
    let node = node_of c.args.who standing in
    let reported = rw c.in_ok-serve_packet_marked-in-Serving.was at c.serve_packet_marked.ensures.alone in
    let untouched = rw c.in_ok-serve_packet_marked-in-Serving.was at c.serve_packet_marked.ensures.untouched in
    subst (λ s. MarkedApart service node (Plain_comes (Packet_comes (segment_of c.args.segment.now))) (record { stage = s; marks = c.args.node.marks }) c.serving_on.result c.serve_packet_marked.new.turn.sent.items) (sym c.in-Serving.is)
    (subst (λ n. MarkedApart service node (Plain_comes (Packet_comes (segment_of c.args.segment.now))) (record { stage = marked.Serving c.in-Serving.serving; marks = c.args.node.marks }) n c.serve_packet_marked.new.turn.sent.items) (sym c.serving_on.ensures)
    (serving_beside service node (Plain_comes (Packet_comes (segment_of c.args.segment.now))) c.in-Serving.serving c.serve_packet_marked.new.serving c.args.node.marks c.serve_packet_marked.new.marks c.args.turn.now.sent.items
    c.serve_packet_marked.new.turn.sent.items c.requires.empty (reported standing) (λ nobody. untouched (not_true (is_for c.args.who.local (segment_of c.args.segment.now)) nobody))))
