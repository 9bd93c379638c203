use Rattle.std.proofs.Common.{length, ◌≡◌, ◌≤◌, ◌+◌, ◌*◌, false}
use Rattle.seq_arith.specs.Checksum.{word_sum}
use Rattle.seq_arith.proofs.checksum.sum_of.Given as goal

-- what is summed and the rest are the whole
abbrev pub invariant-loop-rest : goal.invariant-loop-rest
invariant-loop-rest l = record {
  whole : l.total + word_sum false l.rest ≡ word_sum false l.bytes;
  bound : l.total + 65280 * length l.rest ≤ 65280 * length l.bytes;
}

abbrev pub decreases-loop-rest : goal.decreases-loop-rest
decreases-loop-rest l = length l.rest
