use Rattle.seq_arith.specs.declared.kinds.Grammar.TheVariants.{Plain}
use Rattle.node_bench.proofs.restart.restored.restart.Goals as goal

pub send-requires : goal.send-requires
send-requires c = c.question-hello.ensures.sendable Plain
