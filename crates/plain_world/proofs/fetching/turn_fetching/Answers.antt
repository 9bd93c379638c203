use Rattle.ft_model.specs.Node.{Stage}
use Rattle.ft_model.specs.Node.Stage.{Fetching}
use Rattle.plain_world.proofs.Places.{sends_these}
use Rattle.plain_world.proofs.fetching.turn_fetching.Goals as goal

pub returns-in-Message-clause-turn : goal.returns-in-Message-clause-turn
returns-in-Message-clause-turn g c = rw c.in-Message.is c.take_answer.ensures.turn

pub returns-in_ok-hold-in-Packet-clause-turn : goal.returns-in_ok-hold-in-Packet-clause-turn
returns-in_ok-hold-in-Packet-clause-turn g c =
    λ (stage : Stage). rw c.in-Packet.is (sends_these (Fetching c.args.count c.args.fetched.now) _ c.args.sent.now c.hold.new.sent (c.in_ok-hold-in-Packet.ensures stage))

pub returns-in_ok-ask_again-in-Tick-clause-turn : goal.returns-in_ok-ask_again-in-Tick-clause-turn
returns-in_ok-ask_again-in-Tick-clause-turn g c =
    λ (stage : Stage). rw c.in-Tick.is (sends_these (Fetching c.args.count c.args.fetched.now) _ c.args.sent.now c.ask_again.new.sent (c.in_ok-ask_again-in-Tick.ensures stage))
