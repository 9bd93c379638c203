use Rattle.seq_arith.proofs.Sums.{pieces_join}
use Rattle.seq_arith.proofs.laws.pieces_sum_as_one.Goals as goal

pub returns : goal.returns
returns c = pieces_join
