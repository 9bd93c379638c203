use Rattle.std.specs.Prelude.{length, ◌≡◌, ◌++◌}
use Rattle.tcp_rules.specs.Early.{front_run, behind_front_run}
use Rattle.plain_packets.proofs.places.Places.take_front.Given as goal

abbrev pub invariant-loop-byte : goal.invariant-loop-byte
invariant-loop-byte l = (l.added.items ++ front_run l.self ≡ l.initial.added.items ++ front_run l.initial.self) × (behind_front_run l.self ≡ behind_front_run l.initial.self)

abbrev pub decreases-loop-byte : goal.decreases-loop-byte
decreases-loop-byte l = length l.self
