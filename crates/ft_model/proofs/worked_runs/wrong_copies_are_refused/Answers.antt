use Rattle.ft_model.proofs.worked_runs.wrong_copies_are_refused.Goals as goal
use Rattle.ft_model.proofs.WrongTurns as wrong

pub returns : goal.returns
returns c = record { left_out = wrong.without_copy; read_first = wrong.read_first; index_off = wrong.one_index_off }
