use Rattle.seq_arith.proofs.Shifts.{gap_at}
use Rattle.seq_arith.proofs.laws.gap_is_the_way.Goals as goal

pub returns : goal.returns
returns c = gap_at
