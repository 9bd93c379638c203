use Rattle.seq_arith.specs.declared.kinds.Grammar.TheVariants as grammars
use Rattle.seq_arith.proofs.Refused.{lengthened_is_refused_by}
use Rattle.seq_arith.proofs.laws.lengthened_message_is_refused.Goals as goal

pub returns : goal.returns
returns c = lengthened_is_refused_by grammars.Plain
