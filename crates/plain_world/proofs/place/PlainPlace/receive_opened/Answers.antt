use Rattle.ft_model.specs.Node.{Stage}
use Rattle.plain_world.specs.Values.{node_of}
use Rattle.logger_wire.specs.Records.{numbers_said}
use Rattle.plain_world.proofs.Places.{opened_same}
use Rattle.plain_world.proofs.place.PlainPlace.receive_opened.Goals as goal

pub returns-clause-turn : goal.returns-clause-turn
returns-clause-turn g c =
    rw c.in-Opens.is
    (λ (stage : Stage). opened_same _ (node_of c.args.who stage) (numbers_said c.args.numbers.now) (numbers_said c.in-Opens.asked.numbers) c.in-Opens.asked.timestamping _ _ _ c.if-numbers-asked.false (c.in_ok-connection.ensures.turn stage))
