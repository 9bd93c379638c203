use Rattle.std.proofs.Common.{◌≡◌}
use Rattle.ft_model.specs.Log.{entry_of}
use Rattle.mark_laws.specs.MarkedLog.{MarkedLog as LogWithMarks}
use Rattle.mark_store.specs.Refinement.{IsLeftOfMarked}
use Rattle.schedule_network.proofs.ByKey.{found_from}
use Rattle.schedule_network.proofs.marked.acknowledged.Given as goal

abbrev pub invariant-loop-i : goal.invariant-loop-i
invariant-loop-i l = (m : LogWithMarks) → IsLeftOfMarked l.store m → entry_of l.key m.log ≡ found_from l.key m.log.entries l.i
