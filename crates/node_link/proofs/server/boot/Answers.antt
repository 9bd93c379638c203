use Rattle.std.proofs.Common.{◌∙◌, ap, refl, subst}
use Rattle.ft_model.specs.Legal.{machines}
use Rattle.server_node.specs.Stages.{StageStands}
use Rattle.node_link.specs.Incarnation.{first_of}
use Rattle.node_link.specs.ServerParts.{standing_of}
use Rattle.node_link.proofs.Serviced.{booted}
use Rattle.node_link.proofs.server.boot.Goals as goal

pub returns-clause-booted : goal.returns-clause-booted
unfolding standing_of
returns-clause-booted g c =
    booted (machines g.S.Service.started g.S.Service.after g.S.Service.greeting) c.args.role.now (standing_of c.in_ok-node.node) (g.L.Link.reported c.args.link.now) (g.L.Link.reported c.send_all.new.link) c.args.counts.now c.send_all.new.counts c.sent.result.now c.send_all.ensures.sent
    (c.sent.ensures ∙ c.in_ok-node.ensures.hello)
    (c.in_ok-node.ensures.same ∙ ap (λ kind. record { boot = c.args.role.now.boot; isn = c.args.role.now.isn; kind = kind; local = c.args.role.now.local; profile = c.args.role.now.profile }) c.kind.ensures)
    (subst (λ kind. StageStands (machines g.S.Service.started g.S.Service.after g.S.Service.greeting kind) (first_of c.args.role.now) c.in_ok-node.node.stage) c.kind.ensures (c.in_ok-node.ensures.plain refl))
