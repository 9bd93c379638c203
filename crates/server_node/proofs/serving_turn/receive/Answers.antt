use Rattle.std.proofs.Common.{rules, ◌≡◌, ◌∙◌, ◌==◌, false, not, None, true≢false, eq-eqb, ap, subst, sym}
use Rattle.std.proofs.lemmas.Bool.{ne_eqb}
use Rattle.server_trait.specs.Service.{machine}
use Rattle.logger_wire.specs.Value.{message_of}
use Rattle.ft_model.specs.Node.Input.{Message_comes}
use Rattle.server_node.specs.declared.stage.Stage.TheVariants as stage
use Rattle.server_node.specs.Apart.{TurnsApart}
use Rattle.node_serving.specs.Identity.{node_of}
use Rattle.node_serving.specs.ServingStage.{ServingGoes}
use Rattle.server_node.specs.Stages.{NodeGoes}
use Rattle.server_node.proofs.Staged.{others_message, serves_on}
use Rattle.server_node.proofs.StagedApart.{rest_apart, serving_apart, other_boot, other_restarts, other_knows}
use Rattle.server_node.proofs.serving_turn.receive.Goals as goal

pub returns-in-Some-clause-fenced : goal.returns-in-Some-clause-fenced
returns-in-Some-clause-fenced g c = λ standing. sym (c.newer_in.ensures standing) ∙ c.in-Some.is

pub returns-then-m-who-clause-turn : goal.returns-then-m-who-clause-turn
returns-then-m-who-clause-turn g c = λ standing near sound st.
    let service = machine (g.S.Service.started c.args.who.kind) g.S.Service.after g.S.Service.greeting in
    let other : (c.args.m.now.boot == c.args.who.boot) ≡ false = ne_eqb c.args.m.now.boot c.args.who.boot c.if-m-who.true in
    subst (λ xs. NodeGoes service (node_of c.args.who standing) (Message_comes (message_of c.args.m.now)) c.args.who (stage.Serving c.args.serving.now) xs) (sym c.requires.empty)
    (others_message service c.args.who standing (stage.Serving c.args.serving.now) (message_of c.args.m.now) other st)

pub returns-then-m-who-clause-apart : goal.returns-then-m-who-clause-apart
returns-then-m-who-clause-apart g c =
    let service = machine (g.S.Service.started c.args.who.kind) g.S.Service.after g.S.Service.greeting in
    let message = message_of c.args.m.now in
    let at = stage.Serving c.args.serving.now in
    let other : (c.args.m.now.boot == c.args.who.boot) ≡ false = ne_eqb c.args.m.now.boot c.args.who.boot c.if-m-who.true in
    subst (λ xs. TurnsApart service c.args.who (Message_comes message) at at xs) (sym c.requires.empty)
    (rest_apart service c.args.who (Message_comes message) at (search rules) c.requires.sound (λ standing. other_boot (node_of c.args.who standing) message other)
    (λ standing. other_restarts service (node_of c.args.who standing) message at other)
    (λ standing. other_knows (node_of c.args.who standing) message at other))

pub returns-clause-turn : goal.returns-clause-turn
returns-clause-turn g c = λ standing near sound st.
    let none : c.newer_in.result ≡ None = search rules in
    let service = machine (g.S.Service.started c.args.who.kind) g.S.Service.after g.S.Service.greeting in
    let input = Message_comes (message_of c.args.m.now) in
    let reported = rw c.in_ok-serve_message.was at c.serve_message.ensures.turn in
    serves_on service c.args.who standing input c.args.serving.now c.serve_message.new.serving c.serve_message.new.turn.sent.items (sym (c.newer_in.ensures standing) ∙ none) st
    (λ opened places is stands. subst (λ xs. ServingGoes service (node_of c.args.who standing) input opened places c.serve_message.new.serving xs c.serve_message.new.turn.sent.items) c.requires.empty
    (reported c.if-m-who.false standing opened places tt stands))

pub returns-clause-apart : goal.returns-clause-apart
returns-clause-apart g c =
    let service = machine (g.S.Service.started c.args.who.kind) g.S.Service.after g.S.Service.greeting in
    let reported = rw c.in_ok-serve_message.was at c.serve_message.ensures.alone in
    let known = rw c.in_ok-serve_message.was at c.serve_message.ensures.known in
    let boot = c.if-m-who.false in
    serving_apart service c.args.who (Message_comes (message_of c.args.m.now)) c.args.serving.now c.serve_message.new.serving c.args.turn.now.sent.items c.serve_message.new.turn.sent.items
    c.requires.empty (reported boot) (λ standing nobody. absurd (true≢false (sym nobody ∙ ap not (eq-eqb c.args.m.now.boot c.args.who.boot boot)))) (λ standing. tt) (known boot)

pub returns-clause-unfenced : goal.returns-clause-unfenced
returns-clause-unfenced g c = λ standing.
    let none : c.newer_in.result ≡ None = search rules in
    sym (c.newer_in.ensures standing) ∙ none

pub returns-in_err-serve_message-clause-memory : goal.returns-in_err-serve_message-clause-memory
returns-in_err-serve_message-clause-memory g c = λ lost standing.
    let none : c.newer_in.result ≡ None = search rules in
    sym (c.newer_in.ensures standing) ∙ none
