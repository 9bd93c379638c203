use Rattle.seq_arith.proofs.Shifts.{gap_shift}
use Rattle.seq_arith.proofs.laws.gap_shifts.Goals as goal

pub returns : goal.returns
returns c = gap_shift
