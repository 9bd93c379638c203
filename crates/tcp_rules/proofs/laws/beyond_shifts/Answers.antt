use Rattle.tcp_rules.proofs.Shifts.{is_beyond_shift}
use Rattle.tcp_rules.proofs.laws.beyond_shifts.Goals as goal

pub returns : goal.returns
returns c = is_beyond_shift
