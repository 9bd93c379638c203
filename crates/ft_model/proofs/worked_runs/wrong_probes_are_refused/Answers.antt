use Rattle.ft_model.proofs.worked_runs.wrong_probes_are_refused.Goals as goal
use Rattle.ft_model.proofs.WrongTurns as wrong

pub returns : goal.returns
returns c = record { past_the_edge = wrong.past_the_edge; none = wrong.no_probe; wide = wrong.wide_probe; early = wrong.early_probe }
