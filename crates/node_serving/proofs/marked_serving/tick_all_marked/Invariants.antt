use Rattle.std.proofs.Common.{ℕ, List, ◌≡◌, ◌++◌, length}
use Rattle.ft_io.specs.declared.Key.{Key}
use Rattle.ft_model.specs.Node.{Stage, Place}
use Rattle.ft_model.specs.Node.Input.{Tick_comes}
use Rattle.ft_model.specs.Wire.{Wire}
use Rattle.mark_laws.specs.Marking.{Marking}
use Rattle.mark_laws.specs.MarkedNode.MarkedInput.{Plain_comes}
use Rattle.conn_marks.specs.Settled.{Keeps, AllSettled}
use Rattle.node_serving.specs.Identity.{node_of, service_of}
use Rattle.node_serving.specs.MarkedAlone.{AreAmong, IsMarkOfSubject}
use Rattle.node_serving.specs.MarkedServing.{FirstTick}
use Rattle.node_serving.specs.Markers.{saving, marker_of}
use Rattle.node_serving.specs.Slots.{AllStand, AllSound}
use Rattle.node_serving.proofs.Ticked.{TicksUpTo}
use Rattle.node_serving.proofs.marked_serving.tick_all_marked.Given as goal

abbrev pub invariant-loop-i : goal.invariant-loop-i
invariant-loop-i g l = (length l.slots.entries ≡ l.i-end)
    × AllSound l.who l.slots.entries
    × ((every : ℕ) (standing : Stage) (marking : Key → Marking) (places : List Place)
    → Keeps (marker_of g.S.Service (saving g.S.Saved.form g.S.Saved.state_of g.S.Saved.is_savable) l.who every) marking l.marks
    → AllSettled (marker_of g.S.Service (saving g.S.Saved.form g.S.Saved.state_of g.S.Saved.is_savable) l.who every) marking places
    → AllStand (service_of g.S.Service l.who) (node_of l.who standing) l.initial.slots.entries places
    → FirstTick (marker_of g.S.Service (saving g.S.Saved.form g.S.Saved.state_of g.S.Saved.is_savable) l.who every) (node_of l.who standing) marking places l.i l.slots.entries
    l.initial.turn.sent.items l.turn.sent.items)
    × ((standing : Stage) → (reported : List Wire) × AreAmong (IsMarkOfSubject (node_of l.who standing) (Plain_comes Tick_comes)) (l.initial.turn.sent.items ++ reported) l.turn.sent.items
    × TicksUpTo (service_of g.S.Service l.who) (node_of l.who standing) l.i l.initial.slots.entries l.slots.entries reported)
