use Rattle.logger_store.proofs.Sending.{open_ranges, data_ranges, data_few, read_range}

-- what the tactics of functions cite: the lemmas of each, by its name

pub ruleset take_lemmas = (open_ranges, data_ranges, data_few, read_range)
