use Rattle.plain_world.proofs.place.PlainPlace.meet.Goals as goal

pub returns-in-Message-clause-turn : goal.returns-in-Message-clause-turn
returns-in-Message-clause-turn g c = rw c.in-Message.is c.receive.ensures.turn

pub returns-in_ok-take_segment-in-Packet-clause-turn : goal.returns-in_ok-take_segment-in-Packet-clause-turn
returns-in_ok-take_segment-in-Packet-clause-turn g c = rw c.in-Packet.is c.in_ok-take_segment-in-Packet.ensures.turn

pub returns-in_ok-tick-in-Tick-clause-turn : goal.returns-in_ok-tick-in-Tick-clause-turn
returns-in_ok-tick-in-Tick-clause-turn g c = rw c.in-Tick.is c.in_ok-tick-in-Tick.ensures.turn
