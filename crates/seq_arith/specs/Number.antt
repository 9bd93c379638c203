-- Numbers modulo 2^32, and the offsets in a stream that they name (RFC 9293, 3.4). Byte k of a stream whose SYN has the number isn has the number isn + 1 + k.
-- Streams have at most 2^24 bytes, so a number names only one offset.
use Rattle.std.specs.Prelude.{ℕ, ℤ, Bool, pos, negsuc, ◌+◌, ◌-◌, ◌%◌, ◌^◌, ◌==◌, ◌&&◌, ◌||◌, nat_lt, if◌then◌else◌}

-- how far `to` is past `from`, going up
abbrev pub distance : ℕ → ℕ → ℕ
distance to from = (to + 2 ^ 32 - from) % 2 ^ 32

-- the only number from -2^31 to 2^31 - 1 that equals `to` - `from` modulo 2^32
abbrev pub gap : ℕ → ℕ → ℤ
gap to from = if nat_lt (distance to from) (2 ^ 31) then pos (distance to from) else negsuc (2 ^ 32 - 1 - distance to from)

-- the number of a stream's offset
abbrev pub number_at : ℕ → ℕ → ℕ
number_at isn offset = (isn + 1 + offset) % 2 ^ 32

-- the offset that a number names. The SYN is at -1
unfoldable pub offset_of : ℕ → ℕ → ℤ
offset_of isn number = gap number ((isn + 1) % 2 ^ 32)

-- RFC 9293, 3.4: a < b where b is 1 to 2^31 - 1 further on
abbrev pub precedes : ℕ → ℕ → Bool
precedes a b = nat_lt 0 (distance b a) && nat_lt (distance b a) (2 ^ 31)

-- RFC 9293, 3.4: a =< b
abbrev pub precedes_or_is : ℕ → ℕ → Bool
precedes_or_is a b = a == b || precedes a b

-- whether a number is one of the `len` numbers from `first` on
abbrev pub is_in_window : ℕ → ℕ → ℕ → Bool
is_in_window number first len = nat_lt (distance number first) len
