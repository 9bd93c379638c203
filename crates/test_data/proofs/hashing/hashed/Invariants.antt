use Rattle.std.proofs.Common.{◌≡◌, take}
use Rattle.test_data.specs.Hash.{with_bytes}
use Rattle.test_data.proofs.hashing.hashed.Given as goal

abbrev pub invariant-loop-byte : goal.invariant-loop-byte
invariant-loop-byte l = l.so_far ≡ with_bytes l.hash (take l.byte-index l.bytes)
