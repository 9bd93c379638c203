use Rattle.plain_world.proofs.place.PlainPlace.tick.Goals as goal

pub returns-in-Lives-clause-turn : goal.returns-in-Lives-clause-turn
returns-in-Lives-clause-turn g c = rw c.in-Lives.is c.turn_live.ensures.turn
