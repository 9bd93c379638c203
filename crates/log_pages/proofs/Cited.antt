use Rattle.log_pages.proofs.GivenUp.{room_kept}
use Rattle.log_pages.proofs.Filling.{all_more, filled}
use Rattle.std.proofs.Common.{append_assoc}
use Rattle.log_pages.proofs.Cutting.{more_reads, more_bytes, few_bytes, stops_there, stops_at_end, all_rest, all_took, behind_few, last_enough}

-- what the tactics of functions cite: the lemmas of each, by its name

pub ruleset add_lemmas = (room_kept, all_more, filled, append_assoc)

pub ruleset front_of_lemmas = (more_reads, more_bytes, few_bytes, stops_there, stops_at_end)

pub ruleset drop_first_lemmas = (all_rest, all_took, behind_few, last_enough)
