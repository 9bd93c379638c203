use Rattle.ft_model.proofs.DelayedAck.{acked_at_once}
use Rattle.ft_model.proofs.MeasuredRecovery.{one_too_early, never_recovered, never_recovered_later}
use Rattle.ft_model.proofs.worked_runs.wrong_turns_over_a_wide_area_are_refused.Goals as goal

pub returns : goal.returns
returns c = record { at_once = acked_at_once; early = one_too_early; never = never_recovered; never_later = never_recovered_later }
