use Rattle.long_laws.proofs.refused.keys_in_the_log_are_not_forgotten.Goals as goal
use Rattle.long_laws.proofs.RefusedSteps.{not_forgotten, still_logged}

pub returns : goal.returns
returns c = record { always = λ key w e found may. not_forgotten key w e found may; worked = still_logged }
