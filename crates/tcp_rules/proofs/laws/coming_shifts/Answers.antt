use Rattle.tcp_rules.proofs.ComingShifts.{comes_from}
use Rattle.tcp_rules.proofs.laws.coming_shifts.Goals as goal

pub returns : goal.returns
returns c = comes_from
