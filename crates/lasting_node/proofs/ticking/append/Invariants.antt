use Rattle.std.proofs.Common.{◌≡◌, ◌++◌, take}
use Rattle.lasting_node.proofs.ticking.append.Given as goal

abbrev pub invariant-loop-packet : goal.invariant-loop-packet
invariant-loop-packet l = l.own.sent.items ≡ l.initial.own.sent.items ++ take l.packet-index l.packets
