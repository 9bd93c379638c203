use Rattle.ft_model.proofs.worked_runs.wrong_acknowledgements_are_refused.Goals as goal
use Rattle.ft_model.proofs.WrongTurns as wrong

pub returns : goal.returns
returns c = record { one_too_high = wrong.one_too_high; passed_on = wrong.passed_on; silent = wrong.silent }
