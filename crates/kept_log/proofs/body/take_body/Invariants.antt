use Rattle.std.proofs.Common.{length}
use Rattle.kept_log.proofs.Messages.{Left}
use Rattle.kept_log.proofs.body.take_body.Given as goal

abbrev pub invariant-loop-rest : goal.invariant-loop-rest
invariant-loop-rest l = Left l.body l.rest l.initial.store l.store

abbrev pub decreases-loop-rest : goal.decreases-loop-rest
decreases-loop-rest l = length l.rest
