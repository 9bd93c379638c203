use Rattle.std.proofs.Common.{◌≡◌, length}
use Rattle.twin_log.proofs.twin_out.make_room.Given as goal

abbrev pub invariant-loop-more : goal.invariant-loop-more
invariant-loop-more l = length l.datagrams.items ≡ l._more
