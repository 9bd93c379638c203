use Rattle.reincarnate.proofs.Ready.{last_is_ready, others_are_ready, newest_is_ready, first_in_order}
use Rattle.reincarnate.proofs.ReplayOn.{replays_on, waits_for_bytes, first_is_short, first_is_held, others_are_short}

-- what the tactics of functions cite: the lemmas of each, by its name

pub ruleset pop_lemmas = (last_is_ready, others_are_ready, newest_is_ready, first_in_order)

pub ruleset replay_whole_lemmas = (replays_on, waits_for_bytes, first_is_short, first_is_held, others_are_short)
