use Rattle.ft_model.proofs.BeyondNext as run
use Rattle.ft_model.proofs.worked_runs.acknowledgements_beyond_next_are_not_answered.Goals as goal

pub returns : goal.returns
returns c = record { lawful = run.is_lawful; answered = run.answered }
