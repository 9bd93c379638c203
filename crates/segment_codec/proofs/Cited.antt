use Rattle.segment_codec.proofs.Accepting.{header_is_long, packet_is_short, is_read}

-- what the tactics of functions cite: the lemmas of each, by its name

pub ruleset read_accepted_lemmas = (header_is_long, packet_is_short, is_read)
