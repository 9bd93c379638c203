use Rattle.std.proofs.Common.{sym, subst}
use Rattle.std.specs.List.{IsDistinct}
use Rattle.std.specs.Map.{keys_of}
use Rattle.ft_io.specs.Key.{key_eq}
use Rattle.server_node.specs.Places.{slots_at}
use Rattle.server_node.proofs.ShownPlaces.{none_apart}
use Rattle.server_node.proofs.places.apart.Goals as goal

pub returns-in_default : goal.returns-in_default
returns-in_default g c = none_apart c.args.stage.now c.in_default.not-Serving

pub returns : goal.returns
returns g c = subst (λ at. IsDistinct key_eq (keys_of (slots_at at))) (sym c.in-Serving.is) c.apart.ensures
