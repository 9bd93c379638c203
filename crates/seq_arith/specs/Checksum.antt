-- The Internet checksum (RFC 791, 3.1; RFC 9293, 3.1; RFC 1071): the one's complement of the one's complement sum of the 16-bit
-- words of a string of bytes, the higher byte of a word first and an odd end padded with a zero byte.
use Rattle.std.specs.Prelude.{ℕ, Bool, true, false, not, List, [], ◌∷◌, length, ◌+◌, ◌-◌, ◌*◌, ◌%◌, ◌==◌, if◌then◌else◌}

-- the sum of a string's words. The string begins inside a word where the flag is true
abbrev pub word_sum : Bool → List ℕ → ℕ
word_sum odd [] = 0
word_sum false (byte ∷ bytes) = 256 * byte + word_sum true bytes
word_sum true (byte ∷ bytes) = byte + word_sum false bytes

-- whether a string that begins inside a word or not ends inside one
abbrev pub odd_after : Bool → List ℕ → Bool
odd_after odd [] = odd
odd_after odd (byte ∷ bytes) = odd_after (not odd) bytes

-- a sum whose carries are added back in until it fits 16 bits: only 0 gives 0
unfoldable pub folded : ℕ → ℕ
folded total = if total == 0 then 0 else (total - 1) % 65535 + 1

-- the checksum of a string with this sum
unfoldable pub check_of : ℕ → ℕ
check_of total = 65535 - folded total

-- the checksum of a string of bytes
abbrev pub checksum : List ℕ → ℕ
checksum bytes = check_of (word_sum false bytes)

-- what has been summed so far: the sum of its words, whether it ends inside a word, and how many bytes it has
pub record Summed : Type 0 where
  pub total : ℕ
  pub odd : Bool
  pub count : ℕ

abbrev pub nothing_summed : Summed
nothing_summed = record { total = 0; odd = false; count = 0 }

-- what has been summed once these bytes follow
abbrev pub with_bytes : Summed → List ℕ → Summed
with_bytes summed bytes = record { total = summed.total + word_sum summed.odd bytes; odd = odd_after summed.odd bytes; count = summed.count + length bytes }

-- RFC 1624, equation 3: the checksum after one summed word was replaced
unfoldable pub patched : ℕ → ℕ → ℕ → ℕ
patched check old new = 65535 - folded ((65535 - check) + (65535 - old) + new)
