-- A message about marks as it is written, part by part.
use Rattle.std.specs.Prelude.{ℕ, List, ◌∷◌, ◌++◌}
use Rattle.seq_arith.specs.declared.mark.MarkKind.{MarkKind}
use Rattle.seq_arith.specs.Bytes.{two}
use Rattle.seq_arith.specs.Checksum.{checksum}
use Rattle.seq_arith.specs.Header.{headed}
use Rattle.seq_arith.specs.MessageGrammar.{number_bytes}
use Rattle.seq_arith.specs.MarkGrammar.{kind_number}

-- a header alone
unfoldable pub header_of : MarkKind → (len check boot : ℕ) → List ℕ
header_of kind len check boot = (70 ∷ 86 ∷ 1 ∷ kind_number kind ∷ two len) ++ (two check ++ number_bytes 8 boot)

-- a message of a kind with its checksum
unfoldable pub sealed : MarkKind → (boot : ℕ) → (behind : List ℕ) → List ℕ
sealed kind boot behind = headed 86 (kind_number kind) boot behind (checksum (headed 86 (kind_number kind) boot behind 0))
