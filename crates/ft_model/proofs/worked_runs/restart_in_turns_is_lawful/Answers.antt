use Rattle.ft_model.proofs.worked_runs.restart_in_turns_is_lawful.Goals as goal
use Rattle.ft_model.proofs.RestartInTurns.{restart_is_lawful}

pub returns : goal.returns
returns c = restart_is_lawful
