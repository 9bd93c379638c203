use Rattle.std.proofs.Common.{rules, ◌≡◌, ◌∙◌, [], None, subst, sym}
use Rattle.server_trait.specs.Service.{machine}
use Rattle.logger_wire.specs.Value.{body_of, message_of}
use Rattle.ft_model.specs.Lawful.{Fetches, summary_count}
use Rattle.ft_model.specs.Node.Input.{Message_comes}
use Rattle.server_node.specs.declared.stage.Stage.TheVariants as stage
use Rattle.node_serving.specs.Identity.{node_of}
use Rattle.server_node.specs.Restarts.{RestartGoes}
use Rattle.server_node.specs.RestartEnd.{StageGoes}
use Rattle.server_node.specs.Stages.{NodeGoes}
use Rattle.server_node.proofs.Ranged.{count_in_range}
use Rattle.server_node.proofs.Resuming.{begins_on}
use Rattle.server_node.proofs.Staged.{unanswered}
use Rattle.server_node.proofs.StagedApart.{begun_restarts, unreported_restarts}
use Rattle.server_node.proofs.stage.on_summary.Goals as goal
use Rattle.ft_io.proofs.Outcomes.{if_ok}

pub begin_fetching-requires-clause-few : goal.begin_fetching-requires-clause-few
begin_fetching-requires-clause-few g c = count_in_range c.args.m.now c.in-Some.count c.requires.sendable (sym c.count_in.ensures ∙ c.in-Some.is)

pub returns-in_default-clause-turn : goal.returns-in_default-clause-turn
returns-in_default-clause-turn g c = λ boot unfenced standing near sound is.
    let service = machine (g.S.Service.started c.args.who.kind) g.S.Service.after g.S.Service.greeting in
    let none : summary_count (body_of c.args.m.now.body) ≡ None = search rules in
    subst (λ xs. NodeGoes service (node_of c.args.who standing) (Message_comes (message_of c.args.m.now)) c.args.who stage.Asking xs) (sym c.requires.empty)
    (unanswered service c.args.who standing (message_of c.args.m.now) none is (unfenced standing))

pub returns-clause-turn : goal.returns-clause-turn
returns-clause-turn g c = if_ok c.begin_fetching.result
    (λ after h boot unfenced standing near sound is.
    let service = machine (g.S.Service.started c.args.who.kind) g.S.Service.after g.S.Service.greeting in
    begins_on service c.args.who standing (message_of c.args.m.now) c.in-Some.count after c.begin_fetching.new.turn.sent.items boot (sym c.count_in.ensures ∙ c.in-Some.is) is (unfenced standing)
    (subst (λ xs. StageGoes service c.args.who [] (Fetches service (node_of c.args.who standing) c.in-Some.count []) after xs c.begin_fetching.new.turn.sent.items) c.requires.empty (h standing)))
    c.begin_fetching.ensures.turn

pub returns-in_default-clause-restarts : goal.returns-in_default-clause-restarts
returns-in_default-clause-restarts g c = λ boot standing.
    let none : summary_count (body_of c.args.m.now.body) ≡ None = search rules in
    unreported_restarts (machine (g.S.Service.started c.args.who.kind) g.S.Service.after g.S.Service.greeting) (node_of c.args.who standing) (message_of c.args.m.now) c.args.turn.now.sent.items boot none c.requires.empty

pub returns-clause-restarts : goal.returns-clause-restarts
returns-clause-restarts g c = if_ok c.begin_fetching.result
    (λ after h boot standing.
    let service = machine (g.S.Service.started c.args.who.kind) g.S.Service.after g.S.Service.greeting in
    begun_restarts service (node_of c.args.who standing) (message_of c.args.m.now) c.in-Some.count after c.begin_fetching.new.turn.sent.items boot (sym c.count_in.ensures ∙ c.in-Some.is)
    (subst (λ xs. RestartGoes service (node_of c.args.who standing) c.in-Some.count [] after xs c.begin_fetching.new.turn.sent.items) c.requires.empty (h standing)))
    c.begin_fetching.ensures.alone
