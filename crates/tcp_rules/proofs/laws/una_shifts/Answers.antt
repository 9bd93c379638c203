use Rattle.tcp_rules.proofs.Shifts.{una_after_shift}
use Rattle.tcp_rules.proofs.laws.una_shifts.Goals as goal

pub returns : goal.returns
returns c = una_after_shift
