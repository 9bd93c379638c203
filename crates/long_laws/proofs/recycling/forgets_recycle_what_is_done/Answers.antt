use Rattle.long_laws.proofs.ForgetLog.{takes_out_or_nothing, others_stay}
use Rattle.long_laws.proofs.recycling.forgets_recycle_what_is_done.Goals as goal

pub returns-clause-taken : goal.returns-clause-taken
returns-clause-taken c = takes_out_or_nothing

pub returns-clause-kept : goal.returns-clause-kept
returns-clause-kept c = others_stay
