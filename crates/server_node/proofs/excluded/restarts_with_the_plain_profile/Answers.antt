use Rattle.ft_io.proofs.Outcomes.{if_ok}
use Rattle.ft_model.specs.Node.Stage.{Asking}
use Rattle.node_serving.specs.Identity.{node_of, service_of}
use Rattle.server_node.proofs.Revived.{delays_as_its_server}
use Rattle.server_node.proofs.excluded.restarts_with_the_plain_profile.Goals as goal

pub returns : goal.returns
returns g c =
    if_ok c.revive.result
    (λ slot turns e is sound.
    delays_as_its_server (service_of g.S.Service c.args.who) (node_of c.args.who Asking) e slot c.args.turn.now.sent.items c.revive.new.turn.sent.items (turns Asking e is sound)) c.revive.ensures.turn
