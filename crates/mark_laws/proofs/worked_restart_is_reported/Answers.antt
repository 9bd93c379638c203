-- The report computes.
use Rattle.std.proofs.Common.{refl}
use Rattle.ft_model.proofs.ReportOnLiterals.{report_on_literals}
use Rattle.mark_laws.specs.MarkedReport.{mark_words}
use Rattle.mark_laws.proofs.worked_restart_is_reported.Goals as goal

pub returns : goal.returns
unfolding report_on_literals mark_words
returns c = refl
