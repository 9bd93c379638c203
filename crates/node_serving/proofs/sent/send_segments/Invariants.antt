use Rattle.std.proofs.Common.{◌≡◌, ◌++◌, map, take}
use Rattle.std.specs.List.{AllByRecursion}
use Rattle.server_trait.specs.Service.{AreBytes}
use Rattle.node_serving.specs.SentBytes.{segment_to}
use Rattle.node_serving.proofs.sent.send_segments.Given as goal

abbrev pub invariant-loop-i : goal.invariant-loop-i
invariant-loop-i l = (l.sent.items ≡ l.initial.sent.items ++ map (segment_to l.key) (take l.i l.out.segments)) × AllByRecursion AreBytes (take l.i l.out.segments)
