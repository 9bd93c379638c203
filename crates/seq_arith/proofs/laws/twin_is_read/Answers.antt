use Rattle.seq_arith.proofs.TwinSpelling.{twin_is_read}
use Rattle.seq_arith.proofs.laws.twin_is_read.Goals as goal

pub returns : goal.returns
returns c datagram spellable = twin_is_read datagram spellable
