use Rattle.ft_model.proofs.worked_runs.early_fins_are_refused.Goals as goal
use Rattle.ft_model.proofs.WrongTurns as wrong

pub returns : goal.returns
returns c = record { with_the_read = wrong.fin_with_read; before_its_answer = wrong.fin_before_reads }
