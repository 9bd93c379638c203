use Rattle.long_laws.proofs.worked.worked_first_life_is_joint.Goals as goal
use Rattle.long_laws.proofs.FirstLife.{is_joint}

pub returns : goal.returns
returns c = is_joint
