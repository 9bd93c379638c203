use Rattle.ft_model.proofs.worked_runs.wrong_restarts_are_refused.Goals as goal
use Rattle.ft_model.proofs.WrongTurns as wrong

pub returns : goal.returns
returns c = record { reset = wrong.reset_meanwhile; silent = wrong.silent_meanwhile; restarting = wrong.stays_restarting }
