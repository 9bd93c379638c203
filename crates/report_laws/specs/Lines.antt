-- The lines of a text, each with its line feed (byte 10). A text that doesn't end with a line feed has a last line without one.
use Rattle.std.specs.Prelude.{ℕ, ◌==◌, List, [], ◌∷◌, if◌then◌else◌}

-- the lines with a byte put before the first one
abbrev pub onto_first : ℕ → List (List ℕ) → List (List ℕ)
onto_first c [] = (c ∷ []) ∷ []
onto_first c (line ∷ lines) = (c ∷ line) ∷ lines

unfoldable pub lines_in : List ℕ → List (List ℕ)
lines_in [] = []
lines_in (c ∷ text) = if c == 10 then (c ∷ []) ∷ lines_in text else onto_first c (lines_in text)
