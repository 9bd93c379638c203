use Rattle.plain_world.specs.Values.{left_in}
use Rattle.plain_world.proofs.Places.{concerned_turns}
use Rattle.plain_world.proofs.place.PlainPlace.turn.Goals as goal

pub returns-clause-turn : goal.returns-clause-turn
returns-clause-turn g c =
    concerned_turns _ c.args.who _ _ c.key.result (λ stays. left_in stays c.meet.new.self) c.meet.result _ _ c.key.ensures c.if-not-concerns.ensures c.meet.ensures.turn
