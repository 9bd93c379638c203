use Rattle.seq_arith.proofs.MessageSpelling.{message_is_read}
use Rattle.seq_arith.proofs.laws.message_is_read_in_its_grammar.Goals as goal

pub returns : goal.returns
returns c grammar message spellable = message_is_read message spellable
