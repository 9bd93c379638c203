use Rattle.ft_model.proofs.worked_runs.client_knows_more_is_lawful.Goals as goal
use Rattle.ft_model.proofs.ClientKnowsMore.{restart_is_lawful}

pub returns : goal.returns
returns c = restart_is_lawful
