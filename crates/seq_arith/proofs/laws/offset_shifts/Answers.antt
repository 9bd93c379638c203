use Rattle.seq_arith.proofs.Shifts.{offset_shift}
use Rattle.seq_arith.proofs.laws.offset_shifts.Goals as goal

pub returns : goal.returns
returns c = offset_shift
