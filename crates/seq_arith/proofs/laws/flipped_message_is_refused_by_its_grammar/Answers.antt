use Rattle.seq_arith.proofs.Refused.{flipped_is_refused_by}
use Rattle.seq_arith.proofs.laws.flipped_message_is_refused_by_its_grammar.Goals as goal

pub returns : goal.returns
returns c = flipped_is_refused_by
