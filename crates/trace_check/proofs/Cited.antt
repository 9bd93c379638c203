use Rattle.trace_check.proofs.ClosingLines.{line_closes, other_line_is_rejected, early_end_is_rejected, late_line_is_rejected, line_is_same, nothing_is_left}
use Rattle.line_check.proofs.Spelled.{same_bytes}
use Rattle.trace_check.proofs.HeaderLines.{empty_is_rejected, name_is_read, name_is_rejected, no_service_is_rejected, service_is_read, service_is_rejected}
use Rattle.schedule_text.proofs.Pieces.{slice_split_whole, slice_split_at_mark}
use Rattle.std.proofs.lemmas.List.{take_rest}
use Rattle.trace_check.proofs.AfterLines.{late_packet_is_rejected, no_event_is_rejected, event_is_read, closing_begins, closing_begins_at_end}
use Rattle.trace_check.proofs.TurnLines.{all_begin, all_grow, few_packets, turn_ends_with_text, turn_ends_before}
use Rattle.trace_check.proofs.ReportedTurns.{no_packet_begins, packet_follows, due_is_reported, other_is_due, more_is_due}

-- what the tactics of functions cite: the lemmas of each, by its name

pub ruleset check_closing_lemmas = (line_closes, other_line_is_rejected, early_end_is_rejected, late_line_is_rejected, line_is_same, nothing_is_left)

pub ruleset read_name_lemmas = (same_bytes, empty_is_rejected, name_is_read, name_is_rejected)

pub ruleset read_service_lemmas = (no_service_is_rejected, service_is_read, service_is_rejected)

pub ruleset next_piece_lemmas = (slice_split_whole, slice_split_at_mark, take_rest)

pub ruleset read_event_lemmas = (late_packet_is_rejected, no_event_is_rejected, event_is_read, closing_begins, closing_begins_at_end)

pub ruleset read_packet_lines_lemmas = (all_begin, all_grow, few_packets, turn_ends_with_text, turn_ends_before)

pub ruleset another_follows_lemmas = (no_packet_begins, turn_ends_before, packet_follows, take_rest)

pub ruleset reported_end_lemmas = (due_is_reported, other_is_due, more_is_due, take_rest)
