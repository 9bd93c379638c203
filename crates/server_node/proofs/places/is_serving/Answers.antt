use Rattle.std.proofs.Common.{sym}
use Rattle.server_node.proofs.ShownPlaces.{unserved}
use Rattle.server_node.proofs.places.is_serving.Goals as goal

pub returns-in_default : goal.returns-in_default
returns-in_default g c = sym (unserved c.args.stage.now c.in_default.not-Serving)
