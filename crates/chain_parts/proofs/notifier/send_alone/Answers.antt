use Rattle.std.proofs.Common.{refl}
use Rattle.seq_arith.specs.TwinGrammar.{has_length}
use Rattle.chain_parts.proofs.notifier.send_alone.Goals as goal

pub write_twin-len-requires-clause-size : goal.write_twin-len-requires-clause-size
unfolding has_length
write_twin-len-requires-clause-size g c = refl
