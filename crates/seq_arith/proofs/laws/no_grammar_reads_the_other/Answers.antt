use Rattle.seq_arith.proofs.Refused.{no_grammar_reads_the_other}
use Rattle.seq_arith.proofs.laws.no_grammar_reads_the_other.Goals as goal

pub returns : goal.returns
returns c = no_grammar_reads_the_other
