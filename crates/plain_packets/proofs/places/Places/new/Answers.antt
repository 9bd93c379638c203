use Rattle.plain_packets.proofs.Runs.{no_runs}
use Rattle.plain_packets.proofs.places.Places.new.Goals as goal

pub invariant_of-result : goal.invariant_of-result
invariant_of-result c = no_runs _ c.new.ensures.items
