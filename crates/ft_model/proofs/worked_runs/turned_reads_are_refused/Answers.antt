use Rattle.ft_model.proofs.worked_runs.turned_reads_are_refused.Goals as goal
use Rattle.ft_model.proofs.WrongTurns.{reads_turned}

pub returns : goal.returns
returns c = reads_turned
