use Rattle.ft_model.proofs.worked_runs.early_packets_are_refused.Goals as goal
use Rattle.ft_model.proofs.WrongTurns as wrong

pub returns : goal.returns
returns c = record { output = wrong.released_early; syn_ack = wrong.answered_early }
