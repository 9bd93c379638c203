use Rattle.ft_model.proofs.worked_runs.fin_probe_is_lawful.Goals as goal
use Rattle.ft_model.proofs.ZeroWindow.{fin_probe_is_lawful}

pub returns : goal.returns
returns c = fin_probe_is_lawful
