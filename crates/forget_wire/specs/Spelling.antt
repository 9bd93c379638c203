-- The header of a message about forgetting, without what follows it.
use Rattle.std.specs.Prelude.{ℕ, List, ◌∷◌, ◌++◌}
use Rattle.seq_arith.specs.Bytes.{two}
use Rattle.seq_arith.specs.MessageGrammar.{number_bytes}
use Rattle.long_laws.specs.ForgetGrammar.{ForgetKind, kind_number}

unfoldable pub header_of : ForgetKind → (check boot : ℕ) → List ℕ
header_of kind check boot = (70 ∷ 87 ∷ 1 ∷ kind_number kind ∷ two 30) ++ (two check ++ number_bytes 8 boot)
