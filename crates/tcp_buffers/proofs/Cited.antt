use Rattle.tcp_buffers.proofs.Grown.{first_grows, first_waits, first_is_past}

-- what the tactics of functions cite: the lemmas of each, by its name

pub ruleset past_lemmas = (first_grows, first_waits, first_is_past)
