use Rattle.seq_arith.proofs.Sums.{word_replaced}
use Rattle.seq_arith.proofs.laws.word_replaced.Goals as goal

pub returns : goal.returns
returns c = word_replaced
