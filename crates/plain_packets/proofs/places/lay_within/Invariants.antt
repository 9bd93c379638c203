use Rattle.std.specs.Prelude.{◌≡◌, ◌≤◌, length}
use Rattle.tcp_rules.specs.Early.{laid}
use Rattle.plain_packets.proofs.places.lay_within.Given as goal

abbrev pub invariant-loop-byte : goal.invariant-loop-byte
invariant-loop-byte l = (laid l.place l.rest l.places.items ≡ laid l.fn.at l.fn.bytes l.initial.places.items) × (l.place ≤ length l.places.items)

abbrev pub decreases-loop-byte : goal.decreases-loop-byte
decreases-loop-byte l = length l.rest
