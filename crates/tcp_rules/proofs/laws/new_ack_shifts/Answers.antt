use Rattle.tcp_rules.proofs.Shifts.{is_new_ack_shift}
use Rattle.tcp_rules.proofs.laws.new_ack_shifts.Goals as goal

pub returns : goal.returns
returns c = is_new_ack_shift
