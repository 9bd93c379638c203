use Rattle.ft_io.proofs.Outcomes.{if_ok}
use Rattle.segment_codec.specs.Value.{segment_of}
use Rattle.ft_model.specs.Node.Stage.{Asking}
use Rattle.node_serving.specs.Identity.{node_of}
use Rattle.server_node.proofs.StagedApart.{only_its_senders}
use Rattle.server_node.proofs.excluded.sends_another_clients_segment.Goals as goal

pub returns : goal.returns
returns g c =
    if_ok c.on_packet.result
    (λ after apart. only_its_senders (node_of c.args.who Asking) (segment_of c.args.segment.now) c.args.serving after c.on_packet.new.turn.sent.items (apart.others Asking))
    c.on_packet.ensures.apart
