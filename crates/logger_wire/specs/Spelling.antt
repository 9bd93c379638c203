-- A message as it is written, part by part.
use Rattle.std.specs.Prelude.{ℕ, List, ◌++◌, ◌+◌, length, take, drop}
use Rattle.seq_arith.specs.declared.kinds.Grammar.{Grammar}
use Rattle.seq_arith.specs.declared.kinds.Kind.{Kind}
use Rattle.seq_arith.specs.Checksum.{checksum}
use Rattle.seq_arith.specs.Message.{Body}
use Rattle.seq_arith.specs.MessageGrammar.{fields_of, kind_of, numbers_bytes, numbers_of, behind_of, header}

-- bytes with these in place from a position on, and all others unchanged
unfoldable pub put : ℕ → List ℕ → List ℕ → List ℕ
put at new bytes = take at bytes ++ new ++ drop (at + length new) bytes

-- what follows the header
unfoldable pub body_bytes : Body → List ℕ
body_bytes body = numbers_bytes (fields_of (kind_of body)) (numbers_of body) ++ behind_of body

-- a message of a kind with this checksum, and then with the right one
unfoldable pub text : Grammar → Kind → (boot : ℕ) → (behind : List ℕ) → (check : ℕ) → List ℕ
text grammar kind boot behind check = header grammar kind (16 + length behind) check boot ++ behind

unfoldable pub sealed : Grammar → Kind → (boot : ℕ) → (behind : List ℕ) → List ℕ
sealed grammar kind boot behind = text grammar kind boot behind (checksum (text grammar kind boot behind 0))

-- what bytes become when a message's header is written before the body that is already in place
unfoldable pub framed : Grammar → Kind → (boot len : ℕ) → List ℕ → List ℕ
framed grammar kind boot len bytes = put 0 (sealed grammar kind boot (drop 16 (take len bytes))) bytes
