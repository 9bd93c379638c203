use Rattle.std.proofs.Common.{ap, not, eq-eqb, sym, subst, List}
use Rattle.ft_io.proofs.Outcomes.{if_ok}
use Rattle.logger_wire.specs.Value.{message_of}
use Rattle.ft_model.specs.Node.Input.{Message_comes}
use Rattle.ft_model.specs.Wire.{Wire}
use Rattle.mark_laws.specs.MarkedNode.MarkedInput.{Plain_comes}
use Rattle.node_serving.specs.Markers.{saving, marker_of, node_at}
use Rattle.node_serving.specs.MarkedServing.{ServingGoesMarked}
use Rattle.server_node.specs.MarkedTurns.{TurnsOn, MarkedStands}
use Rattle.server_node.proofs.MarkedInputs.{served_at}
use Rattle.server_node.specs.declared.marked.MarkedStage.TheVariants as marked
use Rattle.node_serving.specs.Identity.{node_of, service_of}
use Rattle.server_node.specs.MarkedApart.{MarkedApart}
use Rattle.server_node.proofs.MarkedApart.{heeded, asking_beside, fetching_beside, serving_beside}
use Rattle.node_serving.specs.Identity.{grammar_in}
use Rattle.server_node.proofs.marked.receive.Goals as goal

pub returns-in-Asking-clause-turn : goal.returns-in-Asking-clause-turn
returns-in-Asking-clause-turn g c = if_ok c.begin.result
    (λ after reported boot calm every standing awaits marking bytes lengths unfenced fair st.
    let by = marker_of g.S.Service (saving g.S.Saved.form g.S.Saved.state_of g.S.Saved.is_savable) c.args.who every in
    let here = subst (λ s. MarkedStands by (node_at c.args.who standing awaits marking) (record { stage = s; marks = c.args.node.marks })) c.in-Asking.is st in
    reported boot calm every standing awaits marking bytes lengths unfenced fair here) c.begin.ensures.turn

pub returns-in-Fetching-clause-turn : goal.returns-in-Fetching-clause-turn
returns-in-Fetching-clause-turn g c = if_ok c.take_answer.result
    (λ after reported boot calm every standing awaits marking bytes lengths unfenced fair st.
    let by = marker_of g.S.Service (saving g.S.Saved.form g.S.Saved.state_of g.S.Saved.is_savable) c.args.who every in
    let here = subst (λ s. MarkedStands by (node_at c.args.who standing awaits marking) (record { stage = s; marks = c.args.node.marks })) c.in-Fetching.is st in
    reported every standing awaits marking bytes lengths unfenced fair here) c.take_answer.ensures.turn

pub returns-in_ok-serve_message_marked-in-Serving-clause-turn : goal.returns-in_ok-serve_message_marked-in-Serving-clause-turn
returns-in_ok-serve_message_marked-in-Serving-clause-turn g c = λ boot calm every standing awaits marking bytes lengths unfenced fair st.
    let by = marker_of g.S.Service (saving g.S.Saved.form g.S.Saved.state_of g.S.Saved.is_savable) c.args.who every in
    let here = subst (λ s. MarkedStands by (node_at c.args.who standing awaits marking) (record { stage = s; marks = c.args.node.marks })) c.in-Serving.is st in
    let reported = rw c.in_ok-serve_message_marked-in-Serving.was at c.serve_message_marked.ensures.turn in
    subst (λ n. TurnsOn by c.args.who bytes lengths (node_at c.args.who standing awaits marking) (Plain_comes (Message_comes (message_of c.args.m.now))) n c.serve_message_marked.new.turn.sent.items) (sym c.serving_on.ensures)
    (served_at by c.args.who (Message_comes (message_of c.args.m.now)) standing awaits marking c.in-Serving.serving c.serve_message_marked.new.serving c.args.node.marks c.serve_message_marked.new.marks bytes lengths c.serve_message_marked.new.turn.sent.items unfenced
    (λ opened places is keeps settled stands.
    subst (λ (l : List Wire). ServingGoesMarked by (node_at c.args.who standing awaits marking) (Message_comes (message_of c.args.m.now)) opened places c.serve_message_marked.new.serving c.serve_message_marked.new.marks l c.serve_message_marked.new.turn.sent.items) c.requires.empty
    (reported boot every standing awaits marking opened places tt keeps settled stands)) here)

pub returns-in-Asking-clause-apart : goal.returns-in-Asking-clause-apart
returns-in-Asking-clause-apart g c = if_ok c.begin.result
    (λ after reported boot standing.
    let service = service_of g.S.Service c.args.who in
    let node = node_of c.args.who standing in
    subst (λ s. MarkedApart service node (Plain_comes (Message_comes (message_of c.args.m.now))) (record { stage = s; marks = c.args.node.marks }) after c.begin.new.turn.sent.items) (sym c.in-Asking.is)
    (asking_beside service node (Plain_comes (Message_comes (message_of c.args.m.now))) c.args.node.marks after c.begin.new.turn.sent.items (heeded c.args.m.now.boot c.args.who.boot boot))) c.begin.ensures.turn

pub returns-in-Fetching-clause-apart : goal.returns-in-Fetching-clause-apart
returns-in-Fetching-clause-apart g c = if_ok c.take_answer.result
    (λ after reported boot standing.
    let service = service_of g.S.Service c.args.who in
    let node = node_of c.args.who standing in
    subst (λ s. MarkedApart service node (Plain_comes (Message_comes (message_of c.args.m.now))) (record { stage = s; marks = c.args.node.marks }) after c.take_answer.new.turn.sent.items) (sym c.in-Fetching.is)
    (fetching_beside service node (Plain_comes (Message_comes (message_of c.args.m.now))) c.in-Fetching.fetching c.args.node.marks after c.take_answer.new.turn.sent.items tt (ap not (eq-eqb c.args.m.now.boot c.args.who.boot boot)))) c.take_answer.ensures.turn

pub returns-in_ok-serve_message_marked-in-Serving-clause-apart : goal.returns-in_ok-serve_message_marked-in-Serving-clause-apart
returns-in_ok-serve_message_marked-in-Serving-clause-apart g c = λ boot standing.
    let service = service_of g.S.Service c.args.who in
    let node = node_of c.args.who standing in
    let reported = rw c.in_ok-serve_message_marked-in-Serving.was at c.serve_message_marked.ensures.alone in
    subst (λ s. MarkedApart service node (Plain_comes (Message_comes (message_of c.args.m.now))) (record { stage = s; marks = c.args.node.marks }) c.serving_on.result c.serve_message_marked.new.turn.sent.items) (sym c.in-Serving.is)
    (subst (λ n. MarkedApart service node (Plain_comes (Message_comes (message_of c.args.m.now))) (record { stage = marked.Serving c.in-Serving.serving; marks = c.args.node.marks }) n c.serve_message_marked.new.turn.sent.items) (sym c.serving_on.ensures)
    (serving_beside service node (Plain_comes (Message_comes (message_of c.args.m.now))) c.in-Serving.serving c.serve_message_marked.new.serving c.args.node.marks c.serve_message_marked.new.marks c.args.turn.now.sent.items
    c.serve_message_marked.new.turn.sent.items c.requires.empty (reported boot standing) (heeded c.args.m.now.boot c.args.who.boot boot)))

pub take_answer-requires-clause-sendable : goal.take_answer-requires-clause-sendable
take_answer-requires-clause-sendable g c = record { grammar = grammar_in c.args.who; sendable = c.requires.sendable }
