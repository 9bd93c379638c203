use Rattle.ft_model.proofs.CongestionWindow.{past_the_window, one_too_early, never_again}
use Rattle.ft_model.proofs.worked_runs.wrong_windows_are_refused.Goals as goal

pub returns : goal.returns
returns c = record { past_it = past_the_window; early = one_too_early; never = never_again }
