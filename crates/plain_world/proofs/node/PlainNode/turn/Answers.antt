use Rattle.server_trait.specs.Service.{machine}
use Rattle.plain_world.specs.Values.{input_in}
use Rattle.plain_world.proofs.NodeTurns.{takes_turn}
use Rattle.plain_world.proofs.node.PlainNode.turn.Goals as goal

pub returns-clause-turn : goal.returns-clause-turn
returns-clause-turn g c =
    rw (← c.self.view_is)
    (takes_turn (machine (g.S.Service.started c.self.inside.who.kind) g.S.Service.after g.S.Service.greeting) c.self.inside.who c.self.inside.stage c.turn.new.self (input_in c.args.input.now)
    c.turn.result c.args.sent.now c.turn.new.sent (rw (← c.self.view_is) at c.requires.free) c.turn.ensures.turn)
