use Rattle.std.specs.Prelude.{◌≡◌, ◌≤◌, false, length, drop}
use Rattle.tcp_rules.specs.Early.{holds_some}
use Rattle.plain_packets.proofs.places.Places.hold_some_from.Given as goal

abbrev pub invariant-loop-end : goal.invariant-loop-end
invariant-loop-end l = (holds_some (drop l.end l.self-inside.places.items) ≡ false) × (l.end ≤ length l.self-inside.places.items)

abbrev pub decreases-loop-end : goal.decreases-loop-end
decreases-loop-end l = l.end
