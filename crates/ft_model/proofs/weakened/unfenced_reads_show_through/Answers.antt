use Rattle.ft_model.proofs.weakened.unfenced_reads_show_through.Goals as goal
use Rattle.ft_model.proofs.UnloggedRead as unlogged

pub returns : goal.returns
returns c = record { wrong_once = unlogged.unfenced_once; seen = unlogged.unfenced_is_seen; not_masked = unlogged.unfenced_not_masked }
