use Rattle.std.proofs.Common.{length, arith, length-take}
use Rattle.seq_arith.proofs.Units.{options_short}
use Rattle.endpoint_script.proofs.hostile.Attack.write.Goals as goal

-- src/hostile.rt:170:9
pub write_packet-requires-clause-fits : goal.write_packet-requires-clause-fits
write_packet-requires-clause-fits c =
    omega (arith, options_short c.head-head.result.mss c.head-head.result.timestamps, length-take c.if-below-eq0.len c.fill.new.bytes, c.fill.auto.bytes)

-- src/hostile.rt:161:5
pub returns : goal.returns
returns c =
    omega (arith, c.write_packet.ensures.length, options_short c.head-head.result.mss c.head-head.result.timestamps, length-take c.if-below-eq0.len c.fill.new.bytes, c.fill.auto.bytes)
