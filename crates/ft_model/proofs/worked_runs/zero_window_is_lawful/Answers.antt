use Rattle.ft_model.proofs.worked_runs.zero_window_is_lawful.Goals as goal
use Rattle.ft_model.proofs.ZeroWindow.{probe_is_lawful}

pub returns : goal.returns
returns c = probe_is_lawful
