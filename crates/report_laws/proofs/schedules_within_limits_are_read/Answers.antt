use Rattle.report_laws.proofs.schedules_within_limits_are_read.Goals as goal
use Rattle.report_laws.proofs.ReadLines.{own_text_read}

pub returns : goal.returns
returns c = λ schedule w. own_text_read schedule w
