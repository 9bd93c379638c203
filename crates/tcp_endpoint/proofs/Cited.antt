use Rattle.seq_arith.proofs.Units.{options_short}
use Rattle.tcp_endpoint.proofs.Spelled.{packets_one, packets_none, nothing_more}
use Rattle.tcp_endpoint.proofs.Pieces.{length_pieces, byte_count_pieces, climbs_push, pieces_push}

-- what the tactics of functions cite: the lemmas of each, by its name

pub ruleset send_reset_reply_lemmas = (options_short, packets_one, packets_none)

pub ruleset retransmit_lemmas = (options_short, packets_one, nothing_more)

pub ruleset send_probe_lemmas = (packets_one, nothing_more)

pub ruleset push_longer_lemmas = (length_pieces, byte_count_pieces, climbs_push, pieces_push)
