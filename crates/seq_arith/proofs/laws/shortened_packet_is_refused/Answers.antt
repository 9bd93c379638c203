use Rattle.seq_arith.proofs.Refused.{shortened_packet_is_refused}
use Rattle.seq_arith.proofs.laws.shortened_packet_is_refused.Goals as goal

pub returns : goal.returns
returns c = shortened_packet_is_refused
