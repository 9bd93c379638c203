use Rattle.std.proofs.Common.{◌≡◌, ℕ, ◌-◌, ◌<◌, ◌≤◌, List, length}
use Rattle.tcp_buffers.specs.Runs.{written}
use Rattle.tcp_buffers.proofs.overwriting.pad_with.Given as goal

abbrev pub invariant-loop-queue : goal.invariant-loop-queue
invariant-loop-queue l = record {
  items : (bytes : List ℕ) → 0 < length bytes → written l.to bytes l.queue.items ≡ written l.to bytes l.fn.queue.items;
  within : length l.queue.items ≤ l.to;
  room : l.queue.capacity ≡ 65535;
}

abbrev pub decreases-loop-queue : goal.decreases-loop-queue
decreases-loop-queue l = l.to - length l.queue.items
