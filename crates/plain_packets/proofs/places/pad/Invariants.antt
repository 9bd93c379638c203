use Rattle.std.specs.Prelude.{◌≡◌, ◌<◌, ℕ, ◌-◌, List, length}
use Rattle.tcp_rules.specs.Early.{laid}
use Rattle.plain_packets.proofs.places.pad.Given as goal

abbrev pub invariant-loop-places : goal.invariant-loop-places
invariant-loop-places l = (bytes : List ℕ) → 0 < length bytes → laid l.at bytes l.places.items ≡ laid l.at bytes l.initial.places.items

abbrev pub decreases-loop-places : goal.decreases-loop-places
decreases-loop-places l = l.at - length l.places.items
