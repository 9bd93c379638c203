use Rattle.std.proofs.Common.{◌-◌, length}
use Rattle.server_trait.specs.Service.{machine}
use Rattle.ft_model.specs.Node.{Stage}
use Rattle.plain_world.specs.Served.{AreServed}
use Rattle.plain_world.specs.NodeTurns.{FirstGo}
use Rattle.plain_world.specs.Values.{input_in, node_of}
use Rattle.plain_world.proofs.serving.go_all.Given as goal

abbrev pub invariant-loop-at : goal.invariant-loop-at
invariant-loop-at g l =
    ((stage : Stage) → FirstGo (machine (g.S.Service.started l.who.kind) g.S.Service.after g.S.Service.greeting) (node_of l.who stage) (input_in l.input) l.at
    l.initial.places.items l.places.items l.initial.sent l.sent)
    × AreServed l.who.kind (machine (g.S.Service.started l.who.kind) g.S.Service.after g.S.Service.greeting) l.places.items

abbrev pub decreases-loop-at : goal.decreases-loop-at
decreases-loop-at g l = length l.places.items - l.at
