use Rattle.plain_packets.proofs.Runs.{held_behind, none_behind, none_further, none_at_end}

-- what the tactics of functions cite: the lemmas of each, by its name

pub ruleset hold_some_from_lemmas = (held_behind, none_behind, none_further, none_at_end)
