use Rattle.ft_model.proofs.ReportDetermines.{readable_reported}
use Rattle.ft_model.proofs.report.turns_of_reports.Goals as goal

pub returns : goal.returns
returns c = readable_reported
