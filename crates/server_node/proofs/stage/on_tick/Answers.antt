use Rattle.std.proofs.Common.{◌∷◌, [], refl, subst, sym, true≢false, ap}
use Rattle.server_trait.specs.Service.{machine}
use Rattle.seq_arith.specs.Message.Body.{HelloMsg}
use Rattle.ft_model.specs.Connection.{reported_by}
use Rattle.ft_model.specs.Lawful.{asked}
use Rattle.ft_model.specs.Restart.{wanted}
use Rattle.ft_model.specs.Node.Input.{Tick_comes}
use Rattle.server_node.specs.declared.stage.Stage.TheVariants as stage
use Rattle.server_node.specs.Apart.{TurnsApart}
use Rattle.node_serving.specs.Identity.{node_of, grammar_in}
use Rattle.node_serving.specs.Openings.{ArePut}
use Rattle.node_serving.specs.ServingStage.{ServingGoes}
use Rattle.server_node.specs.Stages.{StageStands, is_marked}
use Rattle.server_node.proofs.Resuming.{ticks_on}
use Rattle.server_node.proofs.StagedApart.{serving_apart}
use Rattle.server_node.proofs.Staged.{asks_on, serves_on}
use Rattle.server_node.proofs.stage.on_tick.Goals as goal
use Rattle.node_serving.specs.Markers.{saving}
use Rattle.server_node.specs.MarkedTurns.{IsTurnMarked}
use Rattle.mark_laws.specs.MarkedNode.MarkedInput.{Plain_comes}
use Rattle.server_node.proofs.MarkedNodes.{unmarked_turn}
use Rattle.server_node.proofs.MarkedStage.{marked_apart}

pub returns-in_ok-send_hello-in-Asking-clause-turn : goal.returns-in_ok-send_hello-in-Asking-clause-turn
returns-in_ok-send_hello-in-Asking-clause-turn g c = λ standing near sound st.
    let service = machine (g.S.Service.started c.args.who.kind) g.S.Service.after g.S.Service.greeting in
    let reported = rw c.in_ok-send_hello-in-Asking.was at c.send_hello.ensures in
    asks_on service c.args.who standing Tick_comes (reported_by c.args.who.boot HelloMsg ∷ []) c.send_hello.new.turn.sent.items
    (subst (λ s. StageStands service (node_of c.args.who standing) s) c.in-Asking.is st) refl (refl, refl)
    (subst (λ xs. ArePut (grammar_in c.args.who) (reported_by c.args.who.boot HelloMsg ∷ []) xs c.send_hello.new.turn.sent.items) c.requires.empty reported)

pub returns-in_ok-serve_tick-in-Serving-clause-turn : goal.returns-in_ok-serve_tick-in-Serving-clause-turn
returns-in_ok-serve_tick-in-Serving-clause-turn g c = λ standing near sound st.
    let service = machine (g.S.Service.started c.args.who.kind) g.S.Service.after g.S.Service.greeting in
    let reported = rw c.in_ok-serve_tick-in-Serving.was at c.serve_tick.ensures.turn in
    serves_on service c.args.who standing Tick_comes c.in-Serving.serving c.serve_tick.new.serving c.serve_tick.new.turn.sent.items refl
    (subst (λ s. StageStands service (node_of c.args.who standing) s) c.in-Serving.is st)
    (λ opened places is stands. subst (λ xs. ServingGoes service (node_of c.args.who standing) Tick_comes opened places c.serve_tick.new.serving xs c.serve_tick.new.turn.sent.items) c.requires.empty
    (reported standing opened places tt stands))

pub returns-in_ok-ask-in-Fetching-clause-turn : goal.returns-in_ok-ask-in-Fetching-clause-turn
returns-in_ok-ask-in-Fetching-clause-turn g c = λ standing near sound st.
    let service = machine (g.S.Service.started c.args.who.kind) g.S.Service.after g.S.Service.greeting in
    let reported = rw c.in_ok-ask-in-Fetching.was at c.ask.ensures.turn in
    ticks_on service c.args.who standing c.in-Fetching.fetching c.ask.new.turn.sent.items (subst (λ s. StageStands service (node_of c.args.who standing) s) c.in-Fetching.is st)
    (λ count fetched stands. subst (λ xs. ArePut (grammar_in c.args.who) (asked (node_of c.args.who standing) (wanted count fetched)) xs c.ask.new.turn.sent.items) c.requires.empty (reported standing count fetched stands))

pub returns-in_ok-send_hello-in-Asking-clause-apart : goal.returns-in_ok-send_hello-in-Asking-clause-apart
returns-in_ok-send_hello-in-Asking-clause-apart g c =
    subst (λ s. TurnsApart (machine (g.S.Service.started c.args.who.kind) g.S.Service.after g.S.Service.greeting) c.args.who Tick_comes s stage.Asking c.send_hello.new.turn.sent.items) (sym c.in-Asking.is)
    (record { others = λ standing. tt; untouched = λ standing nobody. absurd (true≢false (sym nobody)); alone = λ standing. tt; restarts = λ standing. tt; known = λ standing. tt })

pub returns-in_ok-ask-in-Fetching-clause-apart : goal.returns-in_ok-ask-in-Fetching-clause-apart
returns-in_ok-ask-in-Fetching-clause-apart g c =
    subst (λ s. TurnsApart (machine (g.S.Service.started c.args.who.kind) g.S.Service.after g.S.Service.greeting) c.args.who Tick_comes s (stage.Fetching c.in-Fetching.fetching) c.ask.new.turn.sent.items) (sym c.in-Fetching.is)
    (record { others = λ standing. tt; untouched = λ standing nobody. absurd (true≢false (sym nobody)); alone = λ standing. tt; restarts = λ standing. tt; known = λ standing. tt })

pub returns-in_ok-serve_tick-in-Serving-clause-apart : goal.returns-in_ok-serve_tick-in-Serving-clause-apart
returns-in_ok-serve_tick-in-Serving-clause-apart g c =
    let service = machine (g.S.Service.started c.args.who.kind) g.S.Service.after g.S.Service.greeting in
    let reported = rw c.in_ok-serve_tick-in-Serving.was at c.serve_tick.ensures.alone in
    let known = rw c.in_ok-serve_tick-in-Serving.was at c.serve_tick.ensures.known in
    subst (λ s. TurnsApart service c.args.who Tick_comes s (stage.Serving c.serve_tick.new.serving) c.serve_tick.new.turn.sent.items) (sym c.in-Serving.is)
    (serving_apart service c.args.who Tick_comes c.in-Serving.serving c.serve_tick.new.serving c.args.turn.now.sent.items c.serve_tick.new.turn.sent.items c.requires.empty reported
    (λ standing nobody. absurd (true≢false (sym nobody))) (λ standing. tt) known)

pub returns-in_ok-tick-in-Marked-clause-turn : goal.returns-in_ok-tick-in-Marked-clause-turn
returns-in_ok-tick-in-Marked-clause-turn g c = λ standing near sound st.
    absurd (subst (λ s. StageStands (machine (g.S.Service.started c.args.who.kind) g.S.Service.after g.S.Service.greeting) (node_of c.args.who standing) s) c.in-Marked.is st)

pub returns-in_ok-tick-in-Marked-clause-apart : goal.returns-in_ok-tick-in-Marked-clause-apart
returns-in_ok-tick-in-Marked-clause-apart g c = marked_apart (machine (g.S.Service.started c.args.who.kind) g.S.Service.after g.S.Service.greeting) c.args.who Tick_comes c.args.stage (stage.Marked c.in_ok-tick-in-Marked.field-0) c.tick.new.turn.sent.items
    (ap is_marked c.in-Marked.is)

pub returns-in_ok-send_hello-in-Asking-clause-marked : goal.returns-in_ok-send_hello-in-Asking-clause-marked
returns-in_ok-send_hello-in-Asking-clause-marked g c = unmarked_turn g.S.Service (saving g.S.Saved.form g.S.Saved.state_of g.S.Saved.is_savable) c.args.who (Plain_comes Tick_comes) c.args.stage stage.Asking c.send_hello.new.turn.sent.items (ap is_marked c.in-Asking.is)

pub returns-in_ok-ask-in-Fetching-clause-marked : goal.returns-in_ok-ask-in-Fetching-clause-marked
returns-in_ok-ask-in-Fetching-clause-marked g c = unmarked_turn g.S.Service (saving g.S.Saved.form g.S.Saved.state_of g.S.Saved.is_savable) c.args.who (Plain_comes Tick_comes) c.args.stage (stage.Fetching c.in-Fetching.fetching) c.ask.new.turn.sent.items (ap is_marked c.in-Fetching.is)

pub returns-in_ok-serve_tick-in-Serving-clause-marked : goal.returns-in_ok-serve_tick-in-Serving-clause-marked
returns-in_ok-serve_tick-in-Serving-clause-marked g c = unmarked_turn g.S.Service (saving g.S.Saved.form g.S.Saved.state_of g.S.Saved.is_savable) c.args.who (Plain_comes Tick_comes) c.args.stage (stage.Serving c.serve_tick.new.serving) c.serve_tick.new.turn.sent.items (ap is_marked c.in-Serving.is)

pub returns-in_ok-tick-in-Marked-clause-marked : goal.returns-in_ok-tick-in-Marked-clause-marked
returns-in_ok-tick-in-Marked-clause-marked g c =
    subst (λ s. IsTurnMarked g.S.Service (saving g.S.Saved.form g.S.Saved.state_of g.S.Saved.is_savable) c.args.who (Plain_comes Tick_comes) s (stage.Marked c.in_ok-tick-in-Marked.field-0) c.tick.new.turn.sent.items) (sym c.in-Marked.is) (c.in_ok-tick-in-Marked.ensures.turn, c.in_ok-tick-in-Marked.ensures.apart)
