use Rattle.std.proofs.Common.{◌≡◌, ◌++◌, take}
use Rattle.std.specs.Map.{keys_of}
use Rattle.server_node.specs.Places.{slots_at}
use Rattle.lasting_node.specs.Tending.{SendsOnly, forgets_due}
use Rattle.lasting_node.proofs.node.LastingNode.forget_all.Given as goal

abbrev pub invariant-loop-i : goal.invariant-loop-i
invariant-loop-i g l =
    SendsOnly l.initial.self l.self
    × (l.self.own.sent.items ≡ l.initial.self.own.sent.items ++ forgets_due l.initial.self (take l.i (keys_of (slots_at l.initial.self.node.stage))))
    × (l.self.is_own ≡ l.initial.self.is_own)
