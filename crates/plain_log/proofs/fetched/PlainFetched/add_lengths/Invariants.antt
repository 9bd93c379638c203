use Rattle.std.specs.Prelude.{length}
use Rattle.seq_arith.specs.MessageGrammar.{lens_in}
use Rattle.plain_log.proofs.Following.{HasAdded}
use Rattle.plain_log.proofs.fetched.PlainFetched.add_lengths.Given as goal

abbrev pub invariant-loop-len : goal.invariant-loop-len
invariant-loop-len l = HasAdded l.initial.self l.self (lens_in l.lens) (lens_in l.rest)

abbrev pub decreases-loop-len : goal.decreases-loop-len
decreases-loop-len l = length l.rest
