-- The header of this project's datagrams: the magic, which is hexadecimal 46 and one more byte, the version, the kind, the length of the whole datagram, its
-- checksum and a number of eight bytes.
use Rattle.std.specs.Prelude.{ℕ, List, ◌∷◌, ◌++◌, length, ◌+◌}
use Rattle.seq_arith.specs.Bytes.{two}
use Rattle.seq_arith.specs.MessageGrammar.{number_bytes}

-- bytes after such a header, with this checksum
unfoldable pub headed : (magic kind number : ℕ) → (behind : List ℕ) → (check : ℕ) → List ℕ
headed magic kind number behind check = (70 ∷ magic ∷ 1 ∷ kind ∷ two (16 + length behind)) ++ (two check ++ (number_bytes 8 number ++ behind))
