use Rattle.seq_arith.proofs.Spelling.{spelling_is_read}
use Rattle.seq_arith.proofs.laws.spelling_is_read.Goals as goal

pub returns : goal.returns
returns c = spelling_is_read
