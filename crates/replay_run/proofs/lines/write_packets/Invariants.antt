use Rattle.std.proofs.Common.{◌≡◌, ◌+◌, ◌-◌, ◌++◌}
use Rattle.tcp_rules.specs.Profile.{grammar_of}
use Rattle.tcp_rules.specs.Profiles.{profile_of}
use Rattle.replay_run.specs.PacketLines.{stored_lines}
use Rattle.replay_run.proofs.lines.write_packets.Given as goal

-- what is written, and what is still to be written, are the lines of all these packets
abbrev pub invariant-loop-k : goal.invariant-loop-k
invariant-loop-k l = l.lines.items ++ stored_lines (grammar_of (profile_of l.world.profile)) l.world.packets (l.first + l.k) (l.count - l.k) ≡ l.initial.lines.items ++ stored_lines (grammar_of (profile_of l.world.profile)) l.world.packets l.first l.count
