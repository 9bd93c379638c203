use Rattle.std.proofs.Common.{List, ◌≡◌, ◌++◌, length}
use Rattle.server_trait.specs.Service.{machine}
use Rattle.ft_model.specs.Node.{Stage, Place}
use Rattle.ft_model.specs.Node.Input.{Tick_comes}
use Rattle.ft_model.specs.Wire.{Wire}
use Rattle.node_serving.specs.Clients.{known_in}
use Rattle.node_serving.specs.Identity.{node_of}
use Rattle.node_serving.specs.Slots.{AllStand, AllSound, FirstGo}
use Rattle.node_serving.proofs.Ticked.{TicksUpTo}
use Rattle.node_serving.proofs.slots.tick_all.Given as goal

abbrev pub invariant-loop-i : goal.invariant-loop-i
invariant-loop-i g l = (length l.slots.entries ≡ l.i-end)
    × AllSound l.who l.slots.entries
    × ((stage : Stage) (places : List Place) → AllStand (machine (g.S.Service.started l.who.kind) g.S.Service.after g.S.Service.greeting) (node_of l.who stage) l.initial.slots.entries places
    → FirstGo (machine (g.S.Service.started l.who.kind) g.S.Service.after g.S.Service.greeting) (node_of l.who stage) Tick_comes places l.i l.slots.entries l.initial.turn.sent.items l.turn.sent.items)
    × ((stage : Stage) → (reported : List Wire) × (l.turn.sent.items ≡ l.initial.turn.sent.items ++ reported)
    × TicksUpTo (machine (g.S.Service.started l.who.kind) g.S.Service.after g.S.Service.greeting) (node_of l.who stage) l.i l.initial.slots.entries l.slots.entries reported)
    × (known_in l.slots.entries ≡ known_in l.initial.slots.entries)
