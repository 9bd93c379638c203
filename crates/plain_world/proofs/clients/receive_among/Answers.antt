use Rattle.std.proofs.Common.{arith, if◌then◌else◌}
use Rattle.ft_io.specs.Key.{key_eq}
use Rattle.segment_codec.specs.Value.{segment_of}
use Rattle.ft_model.specs.Client.{received}
use Rattle.plain_log.proofs.Mapped.{mapped_more}
use Rattle.plain_world.proofs.clients.receive_among.Goals as goal

pub loop-client-preserved : goal.loop-client-preserved
loop-client-preserved c =
    mapped_more (λ x. if key_eq x.key c.args.key then received x (segment_of c.args.segment.now) else x) c.loop-client.client-index _ c.loop-client.clients c.client-item.result _ (omega arith)
    c.loop-client.invariant c.in_ok-receive_one.ensures
