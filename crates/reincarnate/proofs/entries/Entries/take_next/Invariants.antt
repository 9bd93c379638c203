use Rattle.std.proofs.Common.{◌≡◌, length}
use Rattle.reincarnate.specs.Progress.{next_live, behind_next}
use Rattle.reincarnate.proofs.entries.Entries.take_next.Given as goal

abbrev pub invariant-loop-entry : goal.invariant-loop-entry
invariant-loop-entry g l = (next_live l.self ≡ next_live l.initial.self) × (behind_next l.self ≡ behind_next l.initial.self)

abbrev pub decreases-loop-entry : goal.decreases-loop-entry
decreases-loop-entry g l = length l.self
