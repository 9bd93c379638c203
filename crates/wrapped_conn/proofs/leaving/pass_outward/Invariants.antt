use Rattle.std.proofs.Common.{◌≡◌, drop, length, List}
use Rattle.seq_arith.specs.Packet.{Segment}
use Rattle.tcp_endpoint.specs.Output.{packets}
use Rattle.tcp_endpoint.specs.Packets.{AreReadable, byte_count}
use Rattle.wrapped_conn.proofs.PassedOn.{IsPassedOn}
use Rattle.wrapped_conn.proofs.leaving.pass_outward.Given as goal

abbrev pub invariant-loop-i : goal.invariant-loop-i
invariant-loop-i l = record {
  south : l.south ≡ l.fn.south;
  count : length l.out ≡ length l.initial.out;
  bytes : byte_count l.out ≡ byte_count l.initial.out;
  rest : drop l.i l.out ≡ drop l.i l.initial.out;
  passed : (segments : List Segment) → l.initial.out ≡ packets segments → AreReadable segments → IsPassedOn l.fn.south l.i segments l.out;
}
