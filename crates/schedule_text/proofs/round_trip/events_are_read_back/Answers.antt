use Rattle.schedule_text.proofs.RoundTrip.{read_back}
use Rattle.schedule_text.proofs.round_trip.events_are_read_back.Goals as goal

pub returns : goal.returns
returns c = read_back
