-- What a link may do to a string of bytes: a bit is inverted.
use Rattle.std.specs.Prelude.{ℕ, List, ◌/◌, ◌%◌, ◌^◌, bit_xor, slice_index, slice_set}

-- One bit inverted. Bit 0 is the lowest of the first byte, bit 8 the lowest of the second
unfoldable pub flipped : (bit : ℕ) → List ℕ → List ℕ
flipped bit bytes = slice_set bytes (bit / 8) (bit_xor (slice_index bytes (bit / 8)) (2 ^ (bit % 8)))
