use Rattle.std.proofs.Common.{◌≡◌, ◌≤◌, ◌+◌, ◌*◌, ◌%◌, length, false}
use Rattle.seq_arith.specs.Checksum.{word_sum}
use Rattle.segment_codec.proofs.summing.words_of.Given as goal

-- what is summed, turned round, and the rest are the whole
abbrev pub invariant-loop-rest : goal.invariant-loop-rest
invariant-loop-rest l = record {
  whole : (256 * l.total + word_sum false l.rest) % 65535 ≡ word_sum false l.bytes % 65535;
  bound : l.total + 32768 * length l.rest ≤ 32768 * length l.bytes;
}

abbrev pub decreases-loop-rest : goal.decreases-loop-rest
decreases-loop-rest l = length l.rest
