use Rattle.std.proofs.Common.{sym}
use Rattle.server_node.proofs.ShownPlaces.{nothing_at}
use Rattle.server_node.proofs.places.key_at.Goals as goal

pub returns-in_default : goal.returns-in_default
returns-in_default g c = sym (nothing_at c.args.stage.now c.args.i c.in_default.not-Serving)
