use Rattle.ft_model.proofs.Services.{sum_append}
use Rattle.plain_log.proofs.Following.{short_more, closes_more, was_open, ends_within}

-- what the tactics of functions cite: the lemmas of each, by its name

pub ruleset add_length_lemmas = (sum_append, short_more, closes_more, was_open, ends_within)
