use Rattle.std.proofs.Common.{◌≡◌, ◌+◌, ◌%◌, ◌++◌}
use Rattle.sample_servers.specs.Transfer.{pattern}
use Rattle.sample_servers.proofs.transfer.write_pattern.Given as goal

abbrev pub invariant-loop-i : goal.invariant-loop-i
invariant-loop-i l = record {
  next : l.next ≡ (l.place + l.i) % 251;
  so_far : l.out.items ≡ l.initial.out.items ++ pattern l.place l.i;
}
