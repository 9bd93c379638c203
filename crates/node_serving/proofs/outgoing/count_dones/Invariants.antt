use Rattle.std.proofs.Common.{◌≡◌, ◌≤◌, length, filter, take}
use Rattle.conn_marks.specs.MarkSends.{is_done_wire}
use Rattle.node_serving.proofs.outgoing.count_dones.Given as goal

abbrev pub invariant-loop-packet : goal.invariant-loop-packet
invariant-loop-packet l = (l.count ≡ length (filter (is_done_wire l.grammar) (take l.packet-index l.packets))) × (l.count ≤ l.packet-index)
