use Rattle.std.proofs.Common.{◌≡◌, ℕ, ◌+◌, ◌%◌, ◌^◌, ◌<◌, get_or}
use Rattle.test_data.specs.Pattern.{byte_at}
use Rattle.test_data.proofs.pattern.Pattern.is_part.Given as goal

abbrev pub invariant-loop-byte : goal.invariant-loop-byte
invariant-loop-byte l = record {
  next : l.next ≡ (l.place + l.byte-index) % 2 ^ 32;
  bytes : (k : ℕ) → k < l.byte-index → get_or l.bytes k 0 ≡ byte_at l.self (l.place + k);
}
