use Rattle.server_trait.specs.Service.{machine}
use Rattle.logger_wire.specs.Value.{message_of}
use Rattle.ft_model.specs.Node.{Stage}
use Rattle.plain_world.specs.Values.{node_of}
use Rattle.plain_world.proofs.Fetches.{count_is_reported, no_count_is_reported}
use Rattle.plain_world.proofs.stage.turn_asking.Goals as goal

pub returns-in_ok-after-in-Some-clause-turn : goal.returns-in_ok-after-in-Some-clause-turn
returns-in_ok-after-in-Some-clause-turn g c =
    λ (stage : Stage).
    rw c.in-Message.is
    (count_is_reported (machine (g.S.Service.started c.args.who.kind) g.S.Service.after g.S.Service.greeting) (node_of c.args.who stage) (message_of c.in-Message.msg) c.in-Some.count _ c.args.sent.now c.begin_fetching.new.sent (c.in-Some.ensures stage)
    (c.in_ok-after-in-Some.ensures.turn stage))

pub returns-in-None-clause-turn : goal.returns-in-None-clause-turn
returns-in-None-clause-turn g c =
    λ (stage : Stage). rw c.in-Message.is (no_count_is_reported (machine (g.S.Service.started c.args.who.kind) g.S.Service.after g.S.Service.greeting) (node_of c.args.who stage) (message_of c.in-Message.msg) c.args.sent.now (c.in-None.ensures stage))
