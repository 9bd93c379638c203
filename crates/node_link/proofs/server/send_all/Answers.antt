use Rattle.std.proofs.Common.{◌∙◌}
use Rattle.node_link.proofs.Serviced.{sent_on, room_for_packet}
use Rattle.node_link.proofs.server.send_all.Goals as goal

pub send_one-requires : goal.send_one-requires
send_one-requires g c =
    room_for_packet c.args.loggers c.args.packets.now c.loop-packet.packet-index (g.L.Link.reported c.args.link.now) (g.L.Link.reported c.loop-packet.link) c.args.counts.now c.loop-packet.counts
    c.loop-packet-test.true c.requires c.loop-packet.invariant.0

pub loop-packet-preserved : goal.loop-packet-preserved
loop-packet-preserved g c = (
  sent_on c.args.loggers c.args.packets.now c.loop-packet.packet-index c.packet-item.result (g.L.Link.reported c.args.link.now) (g.L.Link.reported c.loop-packet.link) (g.L.Link.reported c.send_one.new.link)
      c.args.counts.now c.loop-packet.counts c.send_one.new.counts c.loop-packet-test.true c.packet-item.is c.loop-packet.invariant.0 c.send_one.ensures.sent,
  c.send_one.ensures.no_bind_fault ∙ c.loop-packet.invariant.1,
)
