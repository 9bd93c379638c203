use Rattle.ft_model.proofs.worked_runs.wrong_questions_are_refused.Goals as goal
use Rattle.ft_model.proofs.WrongTurns as wrong

pub returns : goal.returns
returns c = record { bytes_first = wrong.bytes_first; lengths_ahead = wrong.lengths_ahead }
