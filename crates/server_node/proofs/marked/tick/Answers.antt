use Rattle.std.proofs.Common.{◌≡◌, refl, sym, subst, true≢false, List, [], ◌∷◌}
use Rattle.server_trait.specs.Service.{machine}
use Rattle.mark_laws.specs.Restart.{next_question}
use Rattle.ft_model.specs.Connection.{reported_by}
use Rattle.ft_model.specs.Node.Input.{Tick_comes}
use Rattle.ft_model.specs.Wire.{Wire}
use Rattle.seq_arith.specs.Message.Body.{HelloMsg}
use Rattle.mark_laws.specs.MarkedNode.MarkedInput.{Plain_comes}
use Rattle.reincarnate.specs.Questions.{any_asked}
use Rattle.reincarnate.specs.Refinement.{StandsSoFar}
use Rattle.server_node.specs.Marked.{IsSoundAt}
use Rattle.node_serving.specs.Markers.{saving, marker_of, node_at}
use Rattle.node_serving.specs.MarkedServing.{ServingGoesMarked}
use Rattle.server_node.specs.MarkedTurns.{TurnsOn, MarkedStands, SendsQuestion}
use Rattle.node_serving.specs.SentBytes.{ArePut}
use Rattle.server_node.proofs.MarkedFetch.{hello_at, tick_asked_at}
use Rattle.server_node.proofs.MarkedInputs.{served_at}
use Rattle.server_node.specs.declared.marked.MarkedStage.TheVariants as marked
use Rattle.node_serving.specs.Identity.{node_of, service_of, grammar_in}
use Rattle.server_node.specs.MarkedApart.{MarkedApart}
use Rattle.server_node.proofs.MarkedApart.{asking_beside, fetching_beside, serving_beside}
use Rattle.server_node.proofs.marked.tick.Goals as goal

pub returns-in_ok-send_hello-in-Asking-clause-turn : goal.returns-in_ok-send_hello-in-Asking-clause-turn
returns-in_ok-send_hello-in-Asking-clause-turn g c = λ every standing awaits marking bytes lengths unfenced fair st.
    let by = marker_of g.S.Service (saving g.S.Saved.form g.S.Saved.state_of g.S.Saved.is_savable) c.args.who every in
    let here = subst (λ s. MarkedStands by (node_at c.args.who standing awaits marking) (record { stage = s; marks = c.args.node.marks })) c.in-Asking.is st in
    let reported = rw c.in_ok-send_hello-in-Asking.was at c.send_hello.ensures in
    subst (λ n. TurnsOn by c.args.who bytes lengths (node_at c.args.who standing awaits marking) (Plain_comes Tick_comes) n c.send_hello.new.turn.sent.items) (sym c.asking.ensures)
    (hello_at by c.args.who standing awaits marking bytes lengths c.args.node.marks c.send_hello.new.turn.sent.items
    (subst (λ xs. ArePut (grammar_in c.args.who) (reported_by c.args.who.boot HelloMsg ∷ []) xs c.send_hello.new.turn.sent.items) c.requires.empty reported) here)

pub returns-in_ok-ask-in-Fetching-clause-turn : goal.returns-in_ok-ask-in-Fetching-clause-turn
returns-in_ok-ask-in-Fetching-clause-turn g c = λ every standing awaits marking bytes lengths unfenced fair st.
    let by = marker_of g.S.Service (saving g.S.Saved.form g.S.Saved.state_of g.S.Saved.is_savable) c.args.who every in
    let here = subst (λ s. MarkedStands by (node_at c.args.who standing awaits marking) (record { stage = s; marks = c.args.node.marks })) c.in-Fetching.is st in
    let own = subst (IsSoundAt c.args.who) c.in-Fetching.is c.requires.sound in
    subst (λ n. TurnsOn by c.args.who bytes lengths (node_at c.args.who standing awaits marking) (Plain_comes Tick_comes) n c.ask.new.turn.sent.items) (sym c.fetching_on.ensures)
    (tick_asked_at by c.args.who standing awaits marking bytes lengths c.in-Fetching.fetching c.args.node.marks c.in_ok-ask-in-Fetching.field-0 (any_asked c.in-Fetching.fetching) c.ask.new.turn.sent.items
    (λ now. subst (λ k. StandsSoFar (machine (g.S.Service.started k) g.S.Service.after g.S.Service.greeting) now c.in-Fetching.fetching → any_asked c.in-Fetching.fetching ≡ next_question c.in-Fetching.fetching.boot c.in-Fetching.fetching.count now) own.kind (c.ask.ensures.law now))
    own.boot
    (subst (λ (l : List Wire). SendsQuestion (grammar_in c.args.who) (any_asked c.in-Fetching.fetching) c.in_ok-ask-in-Fetching.field-0 l c.ask.new.turn.sent.items) c.requires.empty c.in_ok-ask-in-Fetching.ensures.sent) here)

pub returns-in_ok-serve_tick_marked-in-Serving-clause-turn : goal.returns-in_ok-serve_tick_marked-in-Serving-clause-turn
returns-in_ok-serve_tick_marked-in-Serving-clause-turn g c = λ every standing awaits marking bytes lengths unfenced fair st.
    let by = marker_of g.S.Service (saving g.S.Saved.form g.S.Saved.state_of g.S.Saved.is_savable) c.args.who every in
    let here = subst (λ s. MarkedStands by (node_at c.args.who standing awaits marking) (record { stage = s; marks = c.args.node.marks })) c.in-Serving.is st in
    let reported = rw c.in_ok-serve_tick_marked-in-Serving.was at c.serve_tick_marked.ensures.turn in
    subst (λ n. TurnsOn by c.args.who bytes lengths (node_at c.args.who standing awaits marking) (Plain_comes Tick_comes) n c.serve_tick_marked.new.turn.sent.items) (sym c.serving_on.ensures)
    (served_at by c.args.who Tick_comes standing awaits marking c.in-Serving.serving c.serve_tick_marked.new.serving c.args.node.marks c.args.node.marks bytes lengths c.serve_tick_marked.new.turn.sent.items unfenced
    (λ opened places is keeps settled stands.
    subst (λ (l : List Wire). ServingGoesMarked by (node_at c.args.who standing awaits marking) Tick_comes opened places c.serve_tick_marked.new.serving c.args.node.marks l c.serve_tick_marked.new.turn.sent.items) c.requires.empty
    (reported every standing awaits marking opened places tt keeps settled stands)) here)

pub returns-in_ok-send_hello-in-Asking-clause-apart : goal.returns-in_ok-send_hello-in-Asking-clause-apart
returns-in_ok-send_hello-in-Asking-clause-apart g c = λ standing.
    let service = service_of g.S.Service c.args.who in
    let node = node_of c.args.who standing in
    subst (λ s. MarkedApart service node (Plain_comes Tick_comes) (record { stage = s; marks = c.args.node.marks }) c.asking.result c.send_hello.new.turn.sent.items) (sym c.in-Asking.is)
    (asking_beside service node (Plain_comes Tick_comes) c.args.node.marks c.asking.result c.send_hello.new.turn.sent.items (λ nobody. absurd (true≢false (sym nobody))))

pub returns-in_ok-ask-in-Fetching-clause-apart : goal.returns-in_ok-ask-in-Fetching-clause-apart
returns-in_ok-ask-in-Fetching-clause-apart g c = λ standing.
    let service = service_of g.S.Service c.args.who in
    let node = node_of c.args.who standing in
    subst (λ s. MarkedApart service node (Plain_comes Tick_comes) (record { stage = s; marks = c.args.node.marks }) c.fetching_on.result c.ask.new.turn.sent.items) (sym c.in-Fetching.is)
    (fetching_beside service node (Plain_comes Tick_comes) c.in-Fetching.fetching c.args.node.marks c.fetching_on.result c.ask.new.turn.sent.items tt refl)

pub returns-in_ok-serve_tick_marked-in-Serving-clause-apart : goal.returns-in_ok-serve_tick_marked-in-Serving-clause-apart
returns-in_ok-serve_tick_marked-in-Serving-clause-apart g c = λ standing.
    let service = service_of g.S.Service c.args.who in
    let node = node_of c.args.who standing in
    let reported = rw c.in_ok-serve_tick_marked-in-Serving.was at c.serve_tick_marked.ensures.alone in
    subst (λ s. MarkedApart service node (Plain_comes Tick_comes) (record { stage = s; marks = c.args.node.marks }) c.serving_on.result c.serve_tick_marked.new.turn.sent.items) (sym c.in-Serving.is)
    (subst (λ n. MarkedApart service node (Plain_comes Tick_comes) (record { stage = marked.Serving c.in-Serving.serving; marks = c.args.node.marks }) n c.serve_tick_marked.new.turn.sent.items) (sym c.serving_on.ensures)
    (serving_beside service node (Plain_comes Tick_comes) c.in-Serving.serving c.serve_tick_marked.new.serving c.args.node.marks c.args.node.marks c.args.turn.now.sent.items c.serve_tick_marked.new.turn.sent.items
    c.requires.empty (reported standing) (λ nobody. absurd (true≢false (sym nobody)))))
