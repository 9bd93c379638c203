-- Numbers as bytes in network order, the highest byte first (RFC 791, appendix B).
use Rattle.std.specs.Prelude.{ℕ, List, [], ◌∷◌, ◌+◌, ◌*◌, ◌/◌, ◌%◌, slice_index}

-- the lowest two bytes of a number, and the lowest four
unfoldable pub two : ℕ → List ℕ
two n = n / 256 % 256 ∷ n % 256 ∷ []

unfoldable pub four : ℕ → List ℕ
four n = n / 16777216 % 256 ∷ n / 65536 % 256 ∷ n / 256 % 256 ∷ n % 256 ∷ []

-- the number of two bytes at a place, and of four
unfoldable pub word_at : List ℕ → ℕ → ℕ
word_at bytes at = 256 * slice_index bytes at + slice_index bytes (at + 1)

unfoldable pub long_at : List ℕ → ℕ → ℕ
long_at bytes at = 16777216 * slice_index bytes at + 65536 * slice_index bytes (at + 1) + 256 * slice_index bytes (at + 2) + slice_index bytes (at + 3)
