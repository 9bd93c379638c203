-- A text to which a line is being appended.
use Rattle.std.specs.Prelude.{ℕ, List}

-- the text before the line, and the part of the line written so far
pub record Written : Type 0 where
  pub before : List ℕ
  pub words : List ℕ
