use Rattle.schedule_text.proofs.RoundTrip.{asked_in_line}
use Rattle.schedule_text.proofs.round_trip.event_lines_hold_what_was_asked.Goals as goal

pub returns : goal.returns
returns c = asked_in_line
