use Rattle.std.proofs.Common.{ap, not, eq-eqb, sym, subst, List}
use Rattle.ft_io.proofs.Outcomes.{if_ok}
use Rattle.logger_wire.specs.MarkValue.{message_of as mark_message_of}
use Rattle.ft_model.specs.Wire.{Wire}
use Rattle.mark_laws.specs.MarkedNode.MarkedInput.{Mark_comes}
use Rattle.node_serving.specs.Markers.{saving, marker_of, node_at}
use Rattle.node_serving.specs.MarkedServing.{ReceivedOfMark}
use Rattle.server_node.specs.MarkedTurns.{TurnsOn, MarkedStands}
use Rattle.server_node.proofs.MarkedInputs.{mark_rests, received_serving}
use Rattle.server_node.specs.declared.marked.MarkedStage.TheVariants as marked
use Rattle.node_serving.specs.Identity.{node_of, service_of}
use Rattle.server_node.specs.MarkedApart.{MarkedApart}
use Rattle.server_node.proofs.MarkedApart.{heeded, asking_beside, fetching_beside, serving_beside}
use Rattle.server_node.proofs.marked.receive_mark.Goals as goal

pub returns-in-Asking-clause-turn : goal.returns-in-Asking-clause-turn
returns-in-Asking-clause-turn g c = λ boot every standing awaits marking bytes lengths unfenced fair st.
    let by = marker_of g.S.Service (saving g.S.Saved.form g.S.Saved.state_of g.S.Saved.is_savable) c.args.who every in
    let here = subst (λ s. MarkedStands by (node_at c.args.who standing awaits marking) (record { stage = s; marks = c.args.node.marks })) c.in-Asking.is st in
    subst (λ n. TurnsOn by c.args.who bytes lengths (node_at c.args.who standing awaits marking) (Mark_comes (mark_message_of c.args.m.now)) n c.args.turn.now.sent.items) (sym c.asking.ensures)
    (mark_rests by c.args.who (mark_message_of c.args.m.now) standing awaits marking c.args.node.marks bytes lengths c.args.turn.now.sent.items c.requires.empty here)

pub returns-in-Fetching-clause-turn : goal.returns-in-Fetching-clause-turn
returns-in-Fetching-clause-turn g c = if_ok c.take_answer.result
    (λ after reported boot every standing awaits marking bytes lengths unfenced fair st.
    let by = marker_of g.S.Service (saving g.S.Saved.form g.S.Saved.state_of g.S.Saved.is_savable) c.args.who every in
    let here = subst (λ s. MarkedStands by (node_at c.args.who standing awaits marking) (record { stage = s; marks = c.args.node.marks })) c.in-Fetching.is st in
    reported every standing awaits marking bytes lengths unfenced fair here) c.take_answer.ensures.turn

pub returns-in_ok-serve_mark-in-Serving-clause-turn : goal.returns-in_ok-serve_mark-in-Serving-clause-turn
returns-in_ok-serve_mark-in-Serving-clause-turn g c = λ boot every standing awaits marking bytes lengths unfenced fair st.
    let by = marker_of g.S.Service (saving g.S.Saved.form g.S.Saved.state_of g.S.Saved.is_savable) c.args.who every in
    let here = subst (λ s. MarkedStands by (node_at c.args.who standing awaits marking) (record { stage = s; marks = c.args.node.marks })) c.in-Serving.is st in
    let reported = rw c.in_ok-serve_mark-in-Serving.was at c.serve_mark.ensures.turn in
    subst (λ n. TurnsOn by c.args.who bytes lengths (node_at c.args.who standing awaits marking) (Mark_comes (mark_message_of c.args.m.now)) n c.serve_mark.new.turn.sent.items) (sym c.serving_on.ensures)
    (received_serving by c.args.who (mark_message_of c.args.m.now) standing awaits marking c.in-Serving.serving c.args.node.marks c.serve_mark.new.marks bytes lengths c.serve_mark.new.turn.sent.items boot
    (λ opened places keeps settled stands.
    subst (λ (l : List Wire). ReceivedOfMark by (node_at c.args.who standing awaits marking) places (mark_message_of c.args.m.now) c.serve_mark.new.marks l c.serve_mark.new.turn.sent.items) c.requires.empty
    (reported boot every standing awaits marking opened places keeps settled stands)) here)

pub returns-in-Asking-clause-apart : goal.returns-in-Asking-clause-apart
returns-in-Asking-clause-apart g c = λ boot standing.
    let service = service_of g.S.Service c.args.who in
    let node = node_of c.args.who standing in
    subst (λ s. MarkedApart service node (Mark_comes (mark_message_of c.args.m.now)) (record { stage = s; marks = c.args.node.marks }) c.asking.result c.args.turn.now.sent.items) (sym c.in-Asking.is)
    (asking_beside service node (Mark_comes (mark_message_of c.args.m.now)) c.args.node.marks c.asking.result c.args.turn.now.sent.items (heeded c.args.m.now.boot c.args.who.boot boot))

pub returns-in-Fetching-clause-apart : goal.returns-in-Fetching-clause-apart
returns-in-Fetching-clause-apart g c = if_ok c.take_answer.result
    (λ after reported boot standing.
    let service = service_of g.S.Service c.args.who in
    let node = node_of c.args.who standing in
    subst (λ s. MarkedApart service node (Mark_comes (mark_message_of c.args.m.now)) (record { stage = s; marks = c.args.node.marks }) after c.take_answer.new.turn.sent.items) (sym c.in-Fetching.is)
    (fetching_beside service node (Mark_comes (mark_message_of c.args.m.now)) c.in-Fetching.fetching c.args.node.marks after c.take_answer.new.turn.sent.items tt (ap not (eq-eqb c.args.m.now.boot c.args.who.boot boot)))) c.take_answer.ensures.turn

pub returns-in_ok-serve_mark-in-Serving-clause-apart : goal.returns-in_ok-serve_mark-in-Serving-clause-apart
returns-in_ok-serve_mark-in-Serving-clause-apart g c = λ boot standing.
    let service = service_of g.S.Service c.args.who in
    let node = node_of c.args.who standing in
    let reported = rw c.in_ok-serve_mark-in-Serving.was at c.serve_mark.ensures.alone in
    subst (λ s. MarkedApart service node (Mark_comes (mark_message_of c.args.m.now)) (record { stage = s; marks = c.args.node.marks }) c.serving_on.result c.serve_mark.new.turn.sent.items) (sym c.in-Serving.is)
    (subst (λ n. MarkedApart service node (Mark_comes (mark_message_of c.args.m.now)) (record { stage = marked.Serving c.in-Serving.serving; marks = c.args.node.marks }) n c.serve_mark.new.turn.sent.items) (sym c.serving_on.ensures)
    (serving_beside service node (Mark_comes (mark_message_of c.args.m.now)) c.in-Serving.serving c.in-Serving.serving c.args.node.marks c.serve_mark.new.marks c.args.turn.now.sent.items
    c.serve_mark.new.turn.sent.items c.requires.empty (reported boot standing) (heeded c.args.m.now.boot c.args.who.boot boot)))
