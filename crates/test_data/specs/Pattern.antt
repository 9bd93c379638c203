-- Streams whose bytes count up from a first byte, and begin again after a period. Places are numbers modulo 2^32.
use Rattle.std.specs.Prelude.{ℕ, ◌+◌, ◌%◌, ◌^◌, ◌≡◌, List, EachIndex, slice_index}
use Rattle.test_data.specs.declared.pattern.Pattern.{Pattern}
use Rattle.test_data.specs.declared.pattern.Pattern.TheVariants.{Letters, Capitals, Numbers}

-- a stream's first byte
abbrev pub first_of : Pattern → ℕ
first_of Letters = 97
first_of Capitals = 65
first_of Numbers = 0

-- how many bytes it counts before it begins again
abbrev pub period_of : Pattern → ℕ
period_of Letters = 26
period_of Capitals = 26
period_of Numbers = 251

-- its byte at a place
abbrev pub byte_at : Pattern → ℕ → ℕ
byte_at pattern place = first_of pattern + place % 2 ^ 32 % period_of pattern

-- bytes are the stream's from this place on
abbrev pub IsPart : Pattern → ℕ → List ℕ → Type 0
IsPart pattern place bytes = EachIndex bytes (λ k. slice_index bytes k ≡ byte_at pattern (place + k))
