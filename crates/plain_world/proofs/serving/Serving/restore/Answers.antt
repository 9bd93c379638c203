use Rattle.ft_model.specs.Node.{Stage}
use Rattle.plain_world.proofs.serving.Serving.restore.Goals as goal

pub returns-clause-turn : goal.returns-clause-turn
returns-clause-turn g c = λ (stage : Stage). record { place = c.in_ok-place.place; places = c.in_ok-push.ensures.items; turn = c.in_ok-place.ensures.turn stage }
