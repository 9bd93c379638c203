use Rattle.std.proofs.Common.{◌∙◌, ap, sym, subst}
use Rattle.node_serving.specs.Identity.{service_of}
use Rattle.lasting_node.specs.Turns.{LastingStands}
use Rattle.lasting_link.specs.LastingLife.{lasting_first}
use Rattle.lasting_link.proofs.LastingRun.{booted}
use Rattle.lasting_link.proofs.server.boot.Goals as goal

pub returns-clause-booted : goal.returns-clause-booted
returns-clause-booted g c =
    let role = c.args.role.now in
    booted role c.in_ok-node.node (g.L.Link.reported c.args.link.now) (g.L.Link.reported c.send_all.new.link) c.args.counts.now c.send_all.new.counts c.sent.result.now c.send_all.ensures.sent
    (c.sent.ensures ∙ c.in_ok-node.ensures.hello)
    (c.in_ok-node.ensures.same.1
    ∙ ap (λ kind. record { boot = role.server.boot; isn = role.server.isn; kind = kind; local = role.server.local; profile = role.server.profile }) c.kind.ensures) c.in_ok-node.ensures.same.0
    (subst (λ w. LastingStands (service_of g.S.Service w) (lasting_first role) c.in_ok-node.node) (sym c.in_ok-node.ensures.same.1) c.in_ok-node.ensures.stands)
