-- Each line computes.
use Rattle.std.proofs.Common.{refl}
use Rattle.ft_model.proofs.ReportOnLiterals.{report_on_literals}
use Rattle.lasting_laws.specs.LastingReport.{forget_words, gone_line}
use Rattle.lasting_laws.proofs.worked_lines.Goals as goal

pub returns : goal.returns
unfolding report_on_literals forget_words gone_line
returns c = record { forget = refl; forgotten = refl; gone = refl; second = refl; nobody = refl }
