use Rattle.long_laws.proofs.refused.nothing_is_recycled_during_a_restart.Goals as goal
use Rattle.long_laws.proofs.RefusedSteps.{not_recycled_asked}

pub returns : goal.returns
returns c = λ key w node up restarts asked may. not_recycled_asked key w node up restarts asked may
