use Rattle.std.proofs.Common.{◌≡◌, take}
use Rattle.std.specs.Map.{keys_of}
use Rattle.ft_io.specs.declared.Key.{Key}
use Rattle.ft_model.specs.Node.{Stage}
use Rattle.server_node.specs.Places.{slots_at}
use Rattle.lasting_node.specs.Notes.{IsAtStage}
use Rattle.lasting_node.specs.Tending.{NotesOnly}
use Rattle.lasting_node.specs.Turns.{known_of}
use Rattle.lasting_node.proofs.Watching.{restored_so_far}
use Rattle.lasting_node.proofs.node.LastingNode.watch_restored.Given as goal

abbrev pub invariant-loop-i : goal.invariant-loop-i
invariant-loop-i g l =
    NotesOnly l.initial.self l.self
    × ((at : Stage) → IsAtStage at l.initial.self → (k : Key) → known_of l.self k ≡ restored_so_far at (keys_of (take l.i (slots_at l.initial.self.node.stage))) (known_of l.initial.self) k)
