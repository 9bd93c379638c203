use Rattle.seq_arith.proofs.Refused.{flipped_message_is_refused}
use Rattle.seq_arith.proofs.laws.flipped_message_is_refused.Goals as goal

pub returns : goal.returns
returns c = flipped_message_is_refused
