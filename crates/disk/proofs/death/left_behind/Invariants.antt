use Rattle.std.proofs.Common.{◌≡◌, length}
use Rattle.disk.specs.Death.{remains}
use Rattle.disk.proofs.death.left_behind.Given as goal

-- what the calls after leave of what there is now is what all of them leave
abbrev pub invariant-loop-call : goal.invariant-loop-call
invariant-loop-call l = remains l.death l.file.items l.held.items l.rest ≡ remains l.death l.first l.first l.calls

abbrev pub decreases-loop-call : goal.decreases-loop-call
decreases-loop-call l = length l.rest
