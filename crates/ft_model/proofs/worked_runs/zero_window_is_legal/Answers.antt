-- The trace is legal moment by moment, and each line of its report computes.
use Rattle.std.proofs.Common.{refl}
use Rattle.ft_model.proofs.ReportOnLiterals.{report_on_literals}
use Rattle.ft_model.proofs.ZeroWindowTrace.{is_legal}
use Rattle.ft_model.proofs.worked_runs.zero_window_is_legal.Goals as goal

pub returns : goal.returns
unfolding report_on_literals
returns c = record { legal = is_legal; reported = refl }
