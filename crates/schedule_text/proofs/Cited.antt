use Rattle.schedule_text.proofs.LineByLine.{proceeds, stops, ends}

-- what the tactics of functions cite: the lemmas of each, by its name

pub ruleset read_known_lemmas = (proceeds, stops, ends)
