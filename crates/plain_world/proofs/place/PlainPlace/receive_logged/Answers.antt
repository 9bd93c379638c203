use Rattle.plain_world.proofs.place.PlainPlace.receive_logged.Goals as goal

pub returns-in-Lives-clause-stable : goal.returns-in-Lives-clause-stable
returns-in-Lives-clause-stable g c = rw c.in-Lives.is c.turn_live.ensures.turn

pub returns-in-Lives-clause-reads : goal.returns-in-Lives-clause-reads
returns-in-Lives-clause-reads g c = rw c.in-Lives.is c.turn_live.ensures.turn
