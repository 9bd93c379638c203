use Rattle.std.proofs.Common.{◌∙◌, not, true≢false, eq-eqb, ap, subst, sym}
use Rattle.server_trait.specs.Service.{machine}
use Rattle.logger_wire.specs.Value.{message_of}
use Rattle.ft_model.specs.Lawful.{StageTurn}
use Rattle.ft_model.specs.Node.Stage.{Fetching}
use Rattle.ft_model.specs.Node.Input.{Message_comes}
use Rattle.server_node.specs.declared.stage.Stage.TheVariants as stage
use Rattle.server_node.specs.Apart.{TurnsApart}
use Rattle.node_serving.specs.Identity.{node_of}
use Rattle.server_node.specs.RestartNumbers.{fetched_by}
use Rattle.server_node.specs.Restarts.{AnswerGoes}
use Rattle.server_node.specs.RestartEnd.{StageGoes}
use Rattle.node_serving.specs.ServingStage.{ServingGoes}
use Rattle.server_node.specs.Stages.{StageStands, is_marked}
use Rattle.server_node.proofs.Resuming.{answered_on}
use Rattle.server_node.proofs.StagedApart.{serving_apart}
use Rattle.server_node.proofs.Staged.{serves_on}
use Rattle.server_node.proofs.stage.on_message.Goals as goal
use Rattle.ft_io.proofs.Outcomes.{if_ok}
use Rattle.node_serving.specs.Markers.{saving}
use Rattle.server_node.specs.MarkedTurns.{IsTurnMarked}
use Rattle.mark_laws.specs.MarkedNode.MarkedInput.{Plain_comes}
use Rattle.server_node.proofs.MarkedNodes.{unmarked_turn}
use Rattle.server_node.proofs.MarkedStage.{marked_apart}

pub returns-in-Asking-clause-turn : goal.returns-in-Asking-clause-turn
returns-in-Asking-clause-turn g c =
    let service = machine (g.S.Service.started c.args.who.kind) g.S.Service.after g.S.Service.greeting in
    if_ok c.on_summary.result
    (λ after h boot unfenced standing near sound st. h boot unfenced standing near sound (subst (λ s. StageStands service (node_of c.args.who standing) s) c.in-Asking.is st)) c.on_summary.ensures.turn

pub returns-in_ok-serve_message-in-Serving-clause-turn : goal.returns-in_ok-serve_message-in-Serving-clause-turn
returns-in_ok-serve_message-in-Serving-clause-turn g c = λ boot unfenced standing near sound st.
    let service = machine (g.S.Service.started c.args.who.kind) g.S.Service.after g.S.Service.greeting in
    let input = Message_comes (message_of c.args.m.now) in
    let reported = rw c.in_ok-serve_message-in-Serving.was at c.serve_message.ensures.turn in
    serves_on service c.args.who standing input c.in-Serving.serving c.serve_message.new.serving c.serve_message.new.turn.sent.items (unfenced standing)
    (subst (λ s. StageStands service (node_of c.args.who standing) s) c.in-Serving.is st)
    (λ opened places is stands. subst (λ xs. ServingGoes service (node_of c.args.who standing) input opened places c.serve_message.new.serving xs c.serve_message.new.turn.sent.items) c.requires.empty
    (reported boot standing opened places tt stands))

pub returns-in-Fetching-clause-turn : goal.returns-in-Fetching-clause-turn
returns-in-Fetching-clause-turn g c =
    let service = machine (g.S.Service.started c.args.who.kind) g.S.Service.after g.S.Service.greeting in
    if_ok c.take_answer.result
    (λ after h boot unfenced standing near sound st. answered_on service c.args.who standing (message_of c.args.m.now) c.in-Fetching.fetching after c.take_answer.new.turn.sent.items (unfenced standing)
    (subst (λ s. StageStands service (node_of c.args.who standing) s) c.in-Fetching.is st) sound
    (λ count fetched stands sounds. subst (λ xs. StageGoes service c.args.who (fetched_by (node_of c.args.who standing) (Fetching count fetched) (Message_comes (message_of c.args.m.now))) (StageTurn service (node_of c.args.who standing) (Fetching count fetched) (Message_comes (message_of c.args.m.now)))
    after xs c.take_answer.new.turn.sent.items) c.requires.empty (h standing count fetched stands sounds))) c.take_answer.ensures.turn

pub returns-in-Asking-clause-apart : goal.returns-in-Asking-clause-apart
returns-in-Asking-clause-apart g c = if_ok c.on_summary.result
    (λ after h boot.
    subst (λ s. TurnsApart (machine (g.S.Service.started c.args.who.kind) g.S.Service.after g.S.Service.greeting) c.args.who (Message_comes (message_of c.args.m.now)) s after c.on_summary.new.turn.sent.items) (sym c.in-Asking.is)
    (record {
      others = λ standing. tt;
      untouched = λ standing nobody. absurd (true≢false (sym nobody ∙ ap not (eq-eqb c.args.m.now.boot c.args.who.boot boot)));
      alone = λ standing. tt;
      known = λ standing. tt;
      restarts = λ standing. h boot standing;
    })) c.on_summary.ensures.restarts

pub returns-in-Fetching-clause-apart : goal.returns-in-Fetching-clause-apart
returns-in-Fetching-clause-apart g c = if_ok c.take_answer.result
    (λ after h boot.
    let service = machine (g.S.Service.started c.args.who.kind) g.S.Service.after g.S.Service.greeting in
    subst (λ s. TurnsApart service c.args.who (Message_comes (message_of c.args.m.now)) s after c.take_answer.new.turn.sent.items) (sym c.in-Fetching.is)
    (record {
      others = λ standing. tt;
      untouched = λ standing nobody. absurd (true≢false (sym nobody ∙ ap not (eq-eqb c.args.m.now.boot c.args.who.boot boot)));
      alone = λ standing. tt;
      known = λ standing. tt;
      restarts = λ standing count fetched st.
          subst (λ xs. AnswerGoes service (node_of c.args.who standing) (message_of c.args.m.now) count fetched c.in-Fetching.fetching after xs c.take_answer.new.turn.sent.items) c.requires.empty
          (h standing count fetched st);
    })) c.take_answer.ensures.alone

pub returns-in_ok-serve_message-in-Serving-clause-apart : goal.returns-in_ok-serve_message-in-Serving-clause-apart
returns-in_ok-serve_message-in-Serving-clause-apart g c = λ boot.
    let service = machine (g.S.Service.started c.args.who.kind) g.S.Service.after g.S.Service.greeting in
    let reported = rw c.in_ok-serve_message-in-Serving.was at c.serve_message.ensures.alone in
    let known = rw c.in_ok-serve_message-in-Serving.was at c.serve_message.ensures.known in
    subst (λ s. TurnsApart service c.args.who (Message_comes (message_of c.args.m.now)) s (stage.Serving c.serve_message.new.serving) c.serve_message.new.turn.sent.items) (sym c.in-Serving.is)
    (serving_apart service c.args.who (Message_comes (message_of c.args.m.now)) c.in-Serving.serving c.serve_message.new.serving c.args.turn.now.sent.items c.serve_message.new.turn.sent.items
    c.requires.empty (reported boot) (λ standing nobody. absurd (true≢false (sym nobody ∙ ap not (eq-eqb c.args.m.now.boot c.args.who.boot boot)))) (λ standing. tt) (known boot))

pub returns-in_ok-receive-in-Marked-clause-turn : goal.returns-in_ok-receive-in-Marked-clause-turn
returns-in_ok-receive-in-Marked-clause-turn g c = λ boot unfenced standing near sound st.
    absurd (subst (λ s. StageStands (machine (g.S.Service.started c.args.who.kind) g.S.Service.after g.S.Service.greeting) (node_of c.args.who standing) s) c.in-Marked.is st)

pub returns-in_ok-receive-in-Marked-clause-apart : goal.returns-in_ok-receive-in-Marked-clause-apart
returns-in_ok-receive-in-Marked-clause-apart g c = λ boot. marked_apart (machine (g.S.Service.started c.args.who.kind) g.S.Service.after g.S.Service.greeting) c.args.who (Message_comes (message_of c.args.m.now)) c.args.stage (stage.Marked c.in_ok-receive-in-Marked.field-0) c.receive.new.turn.sent.items
    (ap is_marked c.in-Marked.is)

pub returns-in-Asking-clause-marked : goal.returns-in-Asking-clause-marked
returns-in-Asking-clause-marked g c = if_ok c.on_summary.result (λ after h boot calm. unmarked_turn g.S.Service (saving g.S.Saved.form g.S.Saved.state_of g.S.Saved.is_savable) c.args.who (Plain_comes (Message_comes (message_of c.args.m.now))) c.args.stage after c.on_summary.new.turn.sent.items (ap is_marked c.in-Asking.is)) c.on_summary.ensures.sound

pub returns-in-Fetching-clause-marked : goal.returns-in-Fetching-clause-marked
returns-in-Fetching-clause-marked g c = if_ok c.take_answer.result (λ after h boot calm. unmarked_turn g.S.Service (saving g.S.Saved.form g.S.Saved.state_of g.S.Saved.is_savable) c.args.who (Plain_comes (Message_comes (message_of c.args.m.now))) c.args.stage after c.take_answer.new.turn.sent.items (ap is_marked c.in-Fetching.is)) c.take_answer.ensures.sound

pub returns-in_ok-serve_message-in-Serving-clause-marked : goal.returns-in_ok-serve_message-in-Serving-clause-marked
returns-in_ok-serve_message-in-Serving-clause-marked g c = λ boot calm. unmarked_turn g.S.Service (saving g.S.Saved.form g.S.Saved.state_of g.S.Saved.is_savable) c.args.who (Plain_comes (Message_comes (message_of c.args.m.now))) c.args.stage (stage.Serving c.serve_message.new.serving) c.serve_message.new.turn.sent.items (ap is_marked c.in-Serving.is)

pub returns-in_ok-receive-in-Marked-clause-marked : goal.returns-in_ok-receive-in-Marked-clause-marked
returns-in_ok-receive-in-Marked-clause-marked g c = λ boot calm.
    subst (λ s. IsTurnMarked g.S.Service (saving g.S.Saved.form g.S.Saved.state_of g.S.Saved.is_savable) c.args.who (Plain_comes (Message_comes (message_of c.args.m.now))) s (stage.Marked c.in_ok-receive-in-Marked.field-0) c.receive.new.turn.sent.items) (sym c.in-Marked.is) (c.in_ok-receive-in-Marked.ensures.turn boot calm, c.in_ok-receive-in-Marked.ensures.apart boot)
