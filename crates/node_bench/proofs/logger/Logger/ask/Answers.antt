use Rattle.std.proofs.Common.{subst}
use Rattle.seq_arith.specs.declared.kinds.Grammar.TheVariants.{Plain}
use Rattle.reincarnate.specs.Marking.{IsAnySendable}
use Rattle.node_bench.proofs.logger.Logger.ask.Goals as goal

pub send-requires : goal.send-requires
send-requires c = subst IsAnySendable c.in-Log.is c.requires Plain
