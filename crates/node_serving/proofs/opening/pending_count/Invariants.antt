use Rattle.std.proofs.Common.{◌≡◌, ◌≤◌, take}
use Rattle.node_serving.specs.Openings.{pending_slots}
use Rattle.node_serving.proofs.opening.pending_count.Given as goal

abbrev pub invariant-loop-i : goal.invariant-loop-i
invariant-loop-i g l = (l.count ≡ pending_slots (take l.i l.slots.entries)) × (l.count ≤ l.i)
