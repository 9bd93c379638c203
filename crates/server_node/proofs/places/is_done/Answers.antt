use Rattle.std.proofs.Common.{sym, ap}
use Rattle.std.specs.Map.{lookup}
use Rattle.ft_io.specs.Key.{key_eq}
use Rattle.server_node.specs.Places.{is_done}
use Rattle.server_node.proofs.ShownPlaces.{no_slots}
use Rattle.server_node.proofs.places.is_done.Goals as goal

pub returns-in_default : goal.returns-in_default
returns-in_default g c = sym (ap (λ es. is_done (lookup (key_eq c.args.key) es)) (no_slots c.args.stage.now c.in_default.not-Serving))
