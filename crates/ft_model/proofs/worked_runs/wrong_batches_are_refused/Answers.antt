use Rattle.ft_model.proofs.Batch as wrong
use Rattle.ft_model.proofs.worked_runs.wrong_batches_are_refused.Goals as goal

pub returns : goal.returns
returns c = record { none = wrong.none_follows; last = wrong.another_follows; only = wrong.single_of_more }
