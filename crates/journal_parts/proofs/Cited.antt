use Rattle.journal_parts.proofs.Rounding.{ended_by, faulted_by, readied, serving_cut, replacing_cut, serving_none, unbegun}

-- what the tactics of functions cite: the lemmas of each, by its name

pub ruleset serve_lemmas = (ended_by, faulted_by, readied, serving_cut, replacing_cut, serving_none, unbegun)
