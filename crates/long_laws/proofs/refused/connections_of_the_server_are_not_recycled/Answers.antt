use Rattle.long_laws.proofs.refused.connections_of_the_server_are_not_recycled.Goals as goal
use Rattle.long_laws.proofs.RefusedSteps.{not_recycled_live}

pub returns : goal.returns
returns c = λ key w node place up found ongoing may. not_recycled_live key w node place up found ongoing may
