use Rattle.std.proofs.Common.{length, sym, ap}
use Rattle.server_node.proofs.ShownPlaces.{no_slots}
use Rattle.server_node.proofs.places.count.Goals as goal

pub returns-in_default : goal.returns-in_default
returns-in_default g c = sym (ap length (no_slots c.args.stage.now c.in_default.not-Serving))
