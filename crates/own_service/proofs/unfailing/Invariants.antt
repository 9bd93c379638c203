use Rattle.std.proofs.Common.{◌≡◌, ◌++◌, length}
use Rattle.counter_service.specs.Counter.{answers}
use Rattle.own_service.proofs.unfailing.Given as goal

-- what is answered, and the answers to what is left, are the answers to all
abbrev pub invariant-loop-rest : goal.invariant-loop-rest
invariant-loop-rest l = l.out.items ++ answers l.counter.count l.rest ≡ answers 0 l.script

abbrev pub decreases-loop-rest : goal.decreases-loop-rest
decreases-loop-rest l = length l.rest
