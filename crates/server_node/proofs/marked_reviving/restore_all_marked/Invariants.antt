use Rattle.std.proofs.Common.{ℕ, List, length, reverse}
use Rattle.ft_io.specs.declared.Key.{Key}
use Rattle.ft_model.specs.Lawful.{AreSound}
use Rattle.ft_model.specs.Node.{Stage}
use Rattle.ft_model.specs.Restart.{Fetched}
use Rattle.mark_laws.specs.Marking.{Marking}
use Rattle.reincarnate.specs.Refinement.{StandsWhole}
use Rattle.conn_marks.specs.Settled.{Keeps}
use Rattle.server_node.specs.FetchStage.{AreDistinct}
use Rattle.node_serving.specs.Identity.{node_of, service_of}
use Rattle.server_node.specs.MarkedRestart.{AllBytes, RestoredSoFar}
use Rattle.node_serving.specs.Markers.{saving, marker_of}
use Rattle.node_serving.specs.Openings.{IsCounted}
use Rattle.node_serving.specs.Slots.{AllSound}
use Rattle.server_node.proofs.Restored.{RestoresOn}
use Rattle.server_node.proofs.marked_reviving.restore_all_marked.Given as goal

abbrev pub invariant-loop-entry : goal.invariant-loop-entry
invariant-loop-entry g l = AllSound l.who l.serving.slots.entries
    × IsCounted l.who.isn l.serving.next.0
    × ((every : ℕ) (standing : Stage) (marking : Key → Marking) (fetched : List Fetched) → StandsWhole (service_of g.S.Service l.who) (reverse fetched) l.initial.entries → AreDistinct fetched
    → AreSound (service_of g.S.Service l.who) fetched → AllBytes fetched
    → Keeps (marker_of g.S.Service (saving g.S.Saved.form g.S.Saved.state_of g.S.Saved.is_savable) l.who every) marking l.initial.marks
    → RestoresOn (service_of g.S.Service l.who)
    (RestoredSoFar (marker_of g.S.Service (saving g.S.Saved.form g.S.Saved.state_of g.S.Saved.is_savable) l.who every) (node_of l.who standing) marking)
    fetched l.entries (l.serving, l.marks) l.initial.turn.sent.items l.turn.sent.items)

abbrev pub decreases-loop-entry : goal.decreases-loop-entry
decreases-loop-entry g l = length l.entries
