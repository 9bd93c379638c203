use Rattle.std.proofs.Common.{List, length, reverse}
use Rattle.server_trait.specs.Service.{machine}
use Rattle.ft_model.specs.Restart.{Fetched}
use Rattle.ft_model.specs.Node.{Stage}
use Rattle.ft_model.specs.Lawful.{AreSound}
use Rattle.reincarnate.specs.Refinement.{StandsWhole}
use Rattle.node_serving.specs.Identity.{node_of}
use Rattle.node_serving.specs.Openings.{IsCounted}
use Rattle.server_node.specs.FetchStage.{AreDistinct}
use Rattle.server_node.specs.Restarts.{RestoredAlone}
use Rattle.server_node.specs.RestartEnd.{AreRestored}
use Rattle.node_serving.specs.Slots.{AllSound}
use Rattle.server_node.proofs.Restored.{RestoresOn}
use Rattle.server_node.proofs.reviving.restore_all.Given as goal

abbrev pub invariant-loop-entry : goal.invariant-loop-entry
invariant-loop-entry g l = AllSound l.who l.serving.slots.entries
    × IsCounted l.who.isn l.serving.next.0
    × ((standing : Stage) (fetched : List Fetched) → StandsWhole (machine (g.S.Service.started l.who.kind) g.S.Service.after g.S.Service.greeting) (reverse fetched) l.initial.entries → AreDistinct fetched
    → AreSound (machine (g.S.Service.started l.who.kind) g.S.Service.after g.S.Service.greeting) fetched
    → RestoresOn (machine (g.S.Service.started l.who.kind) g.S.Service.after g.S.Service.greeting) (AreRestored (machine (g.S.Service.started l.who.kind) g.S.Service.after g.S.Service.greeting) (node_of l.who standing))
    fetched l.entries l.serving l.initial.turn.sent.items l.turn.sent.items)
    × ((standing : Stage) (fetched : List Fetched) → StandsWhole (machine (g.S.Service.started l.who.kind) g.S.Service.after g.S.Service.greeting) (reverse fetched) l.initial.entries → AreDistinct fetched
    → RestoresOn (machine (g.S.Service.started l.who.kind) g.S.Service.after g.S.Service.greeting) (RestoredAlone (machine (g.S.Service.started l.who.kind) g.S.Service.after g.S.Service.greeting) (node_of l.who standing))
    fetched l.entries l.serving l.initial.turn.sent.items l.turn.sent.items)

abbrev pub decreases-loop-entry : goal.decreases-loop-entry
decreases-loop-entry g l = length l.entries
