use Rattle.seq_arith.proofs.Refused.{flipped_packet_is_refused}
use Rattle.seq_arith.proofs.laws.flipped_packet_is_refused.Goals as goal

pub returns : goal.returns
returns c = flipped_packet_is_refused
