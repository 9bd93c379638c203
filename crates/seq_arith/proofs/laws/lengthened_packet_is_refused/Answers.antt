use Rattle.seq_arith.proofs.Refused.{lengthened_packet_is_refused}
use Rattle.seq_arith.proofs.laws.lengthened_packet_is_refused.Goals as goal

pub returns : goal.returns
returns c = lengthened_packet_is_refused
