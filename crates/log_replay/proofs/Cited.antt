use Rattle.seq_arith.proofs.Texts.{lens_in_length}
use Rattle.log_replay.proofs.Lengths.{goes_through, stops_there, all_through, sum_through}

-- what the tactics of functions cite: the lemmas of each, by its name

pub ruleset through_lemmas = (lens_in_length, goes_through, stops_there, all_through, sum_through)
