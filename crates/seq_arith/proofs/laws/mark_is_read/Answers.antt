use Rattle.seq_arith.proofs.MarkSpelling.{mark_is_read}
use Rattle.seq_arith.proofs.laws.mark_is_read.Goals as goal

pub returns : goal.returns
returns c = mark_is_read
