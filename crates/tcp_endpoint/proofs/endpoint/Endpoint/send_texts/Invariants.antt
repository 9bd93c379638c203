use Rattle.std.proofs.Common.{◌≡◌, ◌+◌, ◌*◌, ◌<◌, ◌≤◌, ◌++◌, length}
use Rattle.tcp_endpoint.specs.Packets.{byte_count, AreReadable}
use Rattle.tcp_endpoint.specs.Output.{texts, packets}
use Rattle.tcp_endpoint.proofs.endpoint.Endpoint.send_texts.Given as goal

abbrev pub invariant-loop-left : goal.invariant-loop-left
invariant-loop-left l = record {
  less : l.left ≤ l.fn.left;
  place : l.place + l.left ≡ l.fn.place + l.fn.left;
  sent : l.out ++ packets (texts l.left l.self l.place l.left) ≡ l.initial.out ++ packets (texts l.fn.left l.self l.fn.place l.fn.left);
  readable : AreReadable (texts l.left l.self l.place l.left) → AreReadable (texts l.fn.left l.self l.fn.place l.fn.left);
  packets : 64 * length l.out + l.left ≤ 64 * length l.initial.out + l.fn.left + 63;
  open_packets : 0 < l.left → 64 * length l.out + l.left ≤ 64 * length l.initial.out + l.fn.left;
  bytes : byte_count l.out + l.left + 40 * length l.initial.out ≤ byte_count l.initial.out + l.fn.left + 40 * length l.out;
}

abbrev pub decreases-loop-left : goal.decreases-loop-left
decreases-loop-left l = l.left
