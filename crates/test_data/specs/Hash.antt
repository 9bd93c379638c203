-- A polynomial hash at 31, modulo 2^32.
use Rattle.std.specs.Prelude.{ℕ, ◌+◌, ◌*◌, ◌%◌, ◌^◌, List}
use Rattle.std.specs.List.{fold}

-- the hash of bytes and of one more byte after them, where `hash` is that of the bytes
abbrev pub with_byte : ℕ → ℕ → ℕ
with_byte hash byte = (hash * 31 + byte) % 2 ^ 32

-- the same for many bytes
abbrev pub with_bytes : ℕ → List ℕ → ℕ
with_bytes hash bytes = fold with_byte hash bytes
