use Rattle.std.proofs.Common.{◌≡◌}
use Rattle.long_laws.specs.LongTrace.{places_at}
use Rattle.lasting_laws.specs.LastingTurn.{LastingNode}
use Rattle.node_serving.specs.Identity.{service_of}
use Rattle.lasting_node.specs.Turns.{LastingStands}
use Rattle.lasting_node.proofs.Tended.{TendsTo}
use Rattle.lasting_node.proofs.node.LastingNode.tend_all.Given as goal

abbrev pub invariant-loop-i : goal.invariant-loop-i
invariant-loop-i g l =
    ((n : LastingNode) → LastingStands (service_of g.S.Service l.initial.self.node.who) n l.initial.self → TendsTo n (places_at n.node.stage) l.i l.initial.self l.self)
    × (l.self.node.who ≡ l.initial.self.node.who)
    × (l.self.patience ≡ l.initial.self.patience)
    × (l.self.is_own ≡ l.initial.self.is_own)
