use Rattle.std.proofs.Common.{◌≡◌, ◌+◌, ◌≤◌, length}
use Rattle.tcp_buffers.specs.Runs.{written}
use Rattle.tcp_buffers.proofs.overwriting.set_each.Given as goal

abbrev pub invariant-loop-byte : goal.invariant-loop-byte
invariant-loop-byte l = record {
  items : written l.place l.rest l.queue.items ≡ written l.from l.bytes l.fn.queue.items;
  within : l.place + length l.rest ≤ length l.queue.items;
  place : l.place + length l.rest ≡ l.from + length l.bytes;
  long : length l.queue.items ≡ length l.fn.queue.items;
  room : l.queue.capacity ≡ l.fn.queue.capacity;
}

abbrev pub decreases-loop-byte : goal.decreases-loop-byte
decreases-loop-byte l = length l.rest
