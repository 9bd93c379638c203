use Rattle.std.proofs.Common.{rules, ◌≡◌, ◌∙◌, ◌==◌, false, None, subst, sym}
use Rattle.std.proofs.lemmas.Bool.{ne_eqb}
use Rattle.server_trait.specs.Service.{machine}
use Rattle.logger_wire.specs.Value.{message_of}
use Rattle.ft_model.specs.Node.Input.{Message_comes}
use Rattle.server_node.specs.Apart.{TurnsApart}
use Rattle.node_serving.specs.Identity.{node_of}
use Rattle.server_node.specs.Stages.{NodeGoes}
use Rattle.server_node.proofs.Staged.{others_message}
use Rattle.server_node.proofs.StagedApart.{rest_apart, other_boot, other_restarts, other_knows}
use Rattle.node_serving.specs.Markers.{saving}
use Rattle.server_node.proofs.MarkedNodes.{other_turn}
use Rattle.server_node.proofs.stage.receive.Goals as goal

pub returns-in-Some-clause-fenced : goal.returns-in-Some-clause-fenced
returns-in-Some-clause-fenced g c = λ standing. sym (c.newer_in.ensures standing) ∙ c.in-Some.is

pub returns-then-m-who-clause-turn : goal.returns-then-m-who-clause-turn
returns-then-m-who-clause-turn g c = λ standing near sound st.
    let service = machine (g.S.Service.started c.args.who.kind) g.S.Service.after g.S.Service.greeting in
    let other : (c.args.m.now.boot == c.args.who.boot) ≡ false = ne_eqb c.args.m.now.boot c.args.who.boot c.if-m-who.true in
    subst (λ xs. NodeGoes service (node_of c.args.who standing) (Message_comes (message_of c.args.m.now)) c.args.who c.args.stage xs) (sym c.requires.empty)
    (others_message service c.args.who standing c.args.stage (message_of c.args.m.now) other st)

pub returns-clause-turn : goal.returns-clause-turn
returns-clause-turn g c =
    let none : c.newer_in.result ≡ None = search rules in
    c.in_ok-on_message.ensures.turn c.if-m-who.false (λ standing. sym (c.newer_in.ensures standing) ∙ none)

pub returns-clause-unfenced : goal.returns-clause-unfenced
returns-clause-unfenced g c = λ standing.
    let none : c.newer_in.result ≡ None = search rules in
    sym (c.newer_in.ensures standing) ∙ none

pub returns-in_err-on_message-clause-memory : goal.returns-in_err-on_message-clause-memory
returns-in_err-on_message-clause-memory g c = λ lost standing.
    let none : c.newer_in.result ≡ None = search rules in
    sym (c.newer_in.ensures standing) ∙ none

pub returns-then-m-who-clause-apart : goal.returns-then-m-who-clause-apart
returns-then-m-who-clause-apart g c =
    let service = machine (g.S.Service.started c.args.who.kind) g.S.Service.after g.S.Service.greeting in
    let message = message_of c.args.m.now in
    let other : (c.args.m.now.boot == c.args.who.boot) ≡ false = ne_eqb c.args.m.now.boot c.args.who.boot c.if-m-who.true in
    subst (λ xs. TurnsApart service c.args.who (Message_comes message) c.args.stage c.args.stage xs) (sym c.requires.empty)
    (rest_apart service c.args.who (Message_comes message) c.args.stage (search rules) c.requires.sound (λ standing. other_boot (node_of c.args.who standing) message other)
    (λ standing. other_restarts service (node_of c.args.who standing) message c.args.stage other)
    (λ standing. other_knows (node_of c.args.who standing) message c.args.stage other))

pub returns-clause-apart : goal.returns-clause-apart
returns-clause-apart g c = c.in_ok-on_message.ensures.apart c.if-m-who.false

pub returns-then-m-who-clause-marked : goal.returns-then-m-who-clause-marked
returns-then-m-who-clause-marked g c =
    let other : (c.args.m.now.boot == c.args.who.boot) ≡ false = ne_eqb c.args.m.now.boot c.args.who.boot c.if-m-who.true in
    other_turn g.S.Service (saving g.S.Saved.form g.S.Saved.state_of g.S.Saved.is_savable) c.args.who (message_of c.args.m.now) c.args.stage c.args.turn.now.sent.items other c.requires.empty c.fit_slots.ensures (search rules) c.requires.sound

pub returns-clause-marked : goal.returns-clause-marked
returns-clause-marked g c =
    let none : c.newer_in.result ≡ None = search rules in
    c.in_ok-on_message.ensures.marked c.if-m-who.false (λ standing. sym (c.newer_in.ensures standing) ∙ none)
