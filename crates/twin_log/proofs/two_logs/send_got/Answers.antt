use Rattle.std.proofs.Common.{refl}
use Rattle.seq_arith.specs.TwinGrammar.{has_length}
use Rattle.twin_log.proofs.two_logs.send_got.Goals as goal

pub put-requires-clause-fits : goal.put-requires-clause-fits
unfolding has_length
put-requires-clause-fits c = refl
