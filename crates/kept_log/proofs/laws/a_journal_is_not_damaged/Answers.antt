use Rattle.kept_log.proofs.laws.a_journal_is_not_damaged.Goals as goal
use Rattle.kept_log.proofs.Once.{not_damaged, not_unfinished}

pub returns-clause-damaged : goal.returns-clause-damaged
returns-clause-damaged c = λ file made bodies messages calls at whole kept damaged. not_damaged file made bodies messages calls at whole kept damaged

pub returns-clause-unfinished : goal.returns-clause-unfinished
returns-clause-unfinished c = λ file made bodies calls whole short. not_unfinished file made bodies calls whole short
