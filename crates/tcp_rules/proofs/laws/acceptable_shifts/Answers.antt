use Rattle.tcp_rules.proofs.Shifts.{is_acceptable_shift}
use Rattle.tcp_rules.proofs.laws.acceptable_shifts.Goals as goal

pub returns : goal.returns
returns c = is_acceptable_shift
