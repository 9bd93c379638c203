use Rattle.std.proofs.Common.{refl}
use Rattle.ft_model.specs.Log.{log_after}
use Rattle.long_laws.proofs.worked.worked_late_data_would_count.Goals as goal

pub returns : goal.returns
unfolding log_after
returns c = record { was_sent = refl; counts = refl; unsent = refl }
