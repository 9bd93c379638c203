use Rattle.ft_model.proofs.worked_runs.crash_after_logged_is_lawful.Goals as goal
use Rattle.ft_model.proofs.CrashAfterLogged.{restart_is_lawful}

pub returns : goal.returns
returns c = restart_is_lawful
