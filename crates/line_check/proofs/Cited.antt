use Rattle.line_check.proofs.HeaderLines.{short_line_stops, unprintable_line_stops, header_given}
use Rattle.schedule_text.proofs.Pieces.{slice_split_whole, slice_split_at_mark}
use Rattle.std.proofs.lemmas.List.{take_rest}

-- what the tactics of functions cite: the lemmas of each, by its name

pub ruleset read_header_line_lemmas = (short_line_stops, unprintable_line_stops, header_given)

pub ruleset next_piece_lemmas = (slice_split_whole, slice_split_at_mark, take_rest)
