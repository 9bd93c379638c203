use Rattle.std.proofs.Common.{◌∙◌, sym}
use Rattle.plain_world.proofs.Openings.{known_is}
use Rattle.plain_world.proofs.opening.is_known.Goals as goal

pub returns : goal.returns
returns g c = c.has_key.ensures ∙ sym (known_is c.args.key c.args.places.now)
