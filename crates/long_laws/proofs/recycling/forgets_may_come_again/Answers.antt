use Rattle.long_laws.proofs.ForgetLog.{twice_after, twice_answered}
use Rattle.long_laws.proofs.recycling.forgets_may_come_again.Goals as goal

pub returns-clause-log : goal.returns-clause-log
returns-clause-log c = twice_after

pub returns-clause-answer : goal.returns-clause-answer
returns-clause-answer c = twice_answered
