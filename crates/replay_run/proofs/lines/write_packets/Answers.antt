use Rattle.std.proofs.Common.{arith}
use Rattle.tcp_rules.specs.Profile.{grammar_of}
use Rattle.tcp_rules.specs.Profiles.{profile_of}
use Rattle.replay_run.proofs.Stored.{next_stored, all_stored}
use Rattle.replay_run.proofs.lines.write_packets.Goals as goal

pub loop-k-preserved : goal.loop-k-preserved
loop-k-preserved c =
    next_stored (grammar_of (profile_of c.args.world.now.profile)) c.args.world.now.packets c.args.first c.args.count c.loop-k.k c.loop-k.lines.items c.write_packet.new.lines.items _ (omega arith) c.in_ok-write_packet.ensures c.loop-k.invariant

pub returns : goal.returns
returns c = all_stored (grammar_of (profile_of c.args.world.now.profile)) c.args.world.now.packets c.args.first c.args.count c.loop-k.k c.loop-k.lines.items _ (omega arith) c.loop-k.invariant
