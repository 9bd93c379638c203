use Rattle.std.proofs.Common.{sym, ap, ◌∙◌}
use Rattle.segment_codec.specs.Value.{segment_of, seen}
use Rattle.peer_client.proofs.Payload.{payload_is_short}
use Rattle.peer_client.proofs.live.LiveClient.receive.Goals as goal

pub meet-requires : goal.meet-requires
meet-requires c = payload_is_short c.args.bytes.now (segment_of c.in-Ok.packet) (sym c.read_packet.ensures ∙ ap seen c.in-Ok.is)
