-- The trace is legal moment by moment, and each line of its report computes.
use Rattle.std.proofs.Common.{refl}
use Rattle.ft_model.specs.WorkedRuns.CongestionWindow.{pattern}
use Rattle.ft_model.proofs.CongestionWindow.{is_legal}
use Rattle.ft_model.proofs.ReportOnLiterals.{report_on_literals}
use Rattle.ft_model.proofs.worked_runs.congestion_window_is_legal.Goals as goal

pub returns : goal.returns
unfolding report_on_literals pattern
returns c = record { legal = is_legal; reported = refl }
