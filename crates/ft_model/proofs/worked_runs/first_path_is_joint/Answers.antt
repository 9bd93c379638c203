use Rattle.ft_model.proofs.worked_runs.first_path_is_joint.Goals as goal
use Rattle.ft_model.proofs.FirstPath.{is_joint}

pub returns : goal.returns
returns c = is_joint
