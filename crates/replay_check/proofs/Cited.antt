use Rattle.replay_check.proofs.Fronts.{then_whole, then_front, front_then}

-- what the tactics of functions cite: the lemmas of each, by its name

pub ruleset write_legal_lemmas = (then_whole, then_front, front_then)
