use Rattle.seq_arith.proofs.Shifts.{gap_from}
use Rattle.seq_arith.proofs.laws.gap_shortens.Goals as goal

pub returns : goal.returns
returns c = gap_from
