use Rattle.tcp_rules.proofs.Shifts.{below_shift}
use Rattle.tcp_rules.proofs.laws.below_shifts.Goals as goal

pub returns : goal.returns
returns c = below_shift
