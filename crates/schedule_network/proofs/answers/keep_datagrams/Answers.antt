use Rattle.schedule_network.proofs.Datagrams.{one_datagram}
use Rattle.schedule_network.proofs.answers.keep_datagrams.Goals as goal

pub loop-i-preserved : goal.loop-i-preserved
loop-i-preserved c =
    one_datagram c.args.part c.args.packets.now c.loop-i.packets c.push.new.self c.args.sent.now c.loop-i.i c.way_out.result c.bytes.result.now c.to.result c.loop-i.invariant
    c.to.ensures c.bytes.ensures c.way_out.ensures c.in_ok-push.ensures
