use Rattle.std.proofs.Common.{◌≡◌, List}
use Rattle.seq_arith.specs.Packet.{Segment}
use Rattle.tcp_endpoint.specs.Output.{packets}
use Rattle.tcp_endpoint.specs.Packets.{AreReadable}
use Rattle.peer_client.proofs.Stamped.{AreWritten}
use Rattle.peer_client.proofs.stamping.append_all.Given as goal

abbrev pub invariant-loop-i : goal.invariant-loop-i
invariant-loop-i l = (own : List Segment) → l.segments ≡ packets own → AreReadable own → AreWritten l.timestamps own l.i l.out
