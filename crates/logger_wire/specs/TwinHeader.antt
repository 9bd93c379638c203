-- The header of a datagram between two loggers, without what follows it.
use Rattle.std.specs.Prelude.{ℕ, List, ◌∷◌, ◌++◌}
use Rattle.seq_arith.specs.declared.twin.TwinKind.{TwinKind}
use Rattle.seq_arith.specs.Bytes.{two}
use Rattle.seq_arith.specs.MessageGrammar.{number_bytes}
use Rattle.seq_arith.specs.TwinGrammar.{kind_number}

unfoldable pub header_of : TwinKind → (len check number : ℕ) → List ℕ
header_of kind len check number = (70 ∷ 85 ∷ 1 ∷ kind_number kind ∷ two len) ++ (two check ++ number_bytes 8 number)
