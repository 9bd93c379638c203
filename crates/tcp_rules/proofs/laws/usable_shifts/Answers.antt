use Rattle.tcp_rules.proofs.Coming.{is_usable_shift}
use Rattle.tcp_rules.proofs.laws.usable_shifts.Goals as goal

pub returns : goal.returns
returns c = is_usable_shift
