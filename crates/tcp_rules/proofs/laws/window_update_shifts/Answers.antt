use Rattle.tcp_rules.proofs.Shifts.{updates_window_shift}
use Rattle.tcp_rules.proofs.laws.window_update_shifts.Goals as goal

pub returns : goal.returns
returns c = updates_window_shift
