use Rattle.ft_model.proofs.weakened.early_output_depends_on_lost_reads.Goals as goal
use Rattle.ft_model.proofs.UnloggedRead as unlogged

pub returns : goal.returns
returns c = record { wrong_once = unlogged.early_once; seen = unlogged.early_is_seen; not_masked = unlogged.early_not_masked }
