use Rattle.seq_arith.proofs.MessageSpelling.{message_is_read}
use Rattle.seq_arith.proofs.laws.message_is_read.Goals as goal

pub returns : goal.returns
returns c message spellable = message_is_read message spellable
