use Rattle.seq_arith.proofs.Flipped.{flipped_mark_is_refused}
use Rattle.seq_arith.proofs.laws.flipped_mark_is_refused.Goals as goal

pub returns : goal.returns
returns c = flipped_mark_is_refused
