use Rattle.ft_model.proofs.HeldSegments as wrong
use Rattle.ft_model.proofs.worked_runs.wrong_copies_of_held_text_are_refused.Goals as goal

pub returns : goal.returns
returns c = record { left_out = wrong.without_held; held_first = wrong.held_first; as_one = wrong.as_one }
