-- The sum of what the TCP checksum sums, in two parts.
use Rattle.std.proofs.Common.{◌≡◌, ℕ, ◌<◌, ◌≤◌, ◌+◌, ◌-◌, ◌%◌, ◌^◌, false, List, length, take, drop, subst, arith}
use Rattle.seq_arith.specs.Bytes.{two}
use Rattle.seq_arith.specs.Checksum.{word_sum, folded, check_of}
use Rattle.seq_arith.specs.PacketGrammar.{tcp_text}
use Rattle.segment_codec.proofs.Cells.{front, front_is}

-- multiples of 65,535 more make no difference to a checksum
same_check : (a b len : ℕ) → a % 65535 ≡ b % 65535 → check_of (a + 6 + len) ≡ check_of (b + 6 + len)
unfolding check_of folded
same_check a b len same = grind arith

pub same_checks : (a b c d len : ℕ) → a % 65535 ≡ c % 65535 → b % 65535 ≡ d % 65535 → check_of (a + b + 6 + len) ≡ check_of (c + d + 6 + len)
same_checks a b c d len first second = same_check (a + b) (c + d) len (omega (arith, first, second))

cells_summed : (bytes : List ℕ) → length (front 40 bytes) < 2 ^ 16
    → word_sum false (take 28 (drop 12 (front 40 bytes))) + word_sum false (drop 40 (front 40 bytes)) + 6 + (length (front 40 bytes) - 20)
    ≡ word_sum false (tcp_text (front 40 bytes))
unfolding tcp_text two
cells_summed bytes short = omega arith

-- the addresses stand in front of the TCP header
pub tcp_summed : (bytes : List ℕ) → 40 ≤ length bytes → length bytes < 2 ^ 16
    → word_sum false (take 28 (drop 12 bytes)) + word_sum false (drop 40 bytes) + 6 + (length bytes - 20) ≡ word_sum false (tcp_text bytes)
tcp_summed bytes long =
    subst (λ b. length b < 2 ^ 16 → word_sum false (take 28 (drop 12 b)) + word_sum false (drop 40 b) + 6 + (length b - 20) ≡ word_sum false (tcp_text b))
    (front_is 40 bytes long) (cells_summed bytes)
