-- The lines of a text and the words of a line.
--
-- A text is lines that end with a line feed; the last may lack it. The words of a line are separated by one or more spaces, and spaces
-- at either end don't count.
use Rattle.std.specs.Prelude.{ℕ, Bool, true, false, ◌==◌, not, List, [], ◌∷◌, filter, if◌then◌else◌}
use Rattle.std.specs.List.{slice_split}

-- whether a byte is a given one
abbrev pub is : ℕ → ℕ → Bool
is mark byte = byte == mark

abbrev pub is_empty : {A : Type 0} → List A → Bool
is_empty [] = true
is_empty (item ∷ more) = false

-- after the last line feed there is no line, unless something follows it
unfoldable pub without_empty_last : List (List ℕ) → List (List ℕ)
without_empty_last [] = []
without_empty_last (last ∷ []) = if is_empty last then [] else last ∷ []
without_empty_last (line ∷ next ∷ more) = line ∷ without_empty_last (next ∷ more)

-- the pieces of a text between its line feeds (byte 10)
unfoldable pub lines_of : List ℕ → List (List ℕ)
lines_of text = without_empty_last (slice_split (is 10) text)

-- the pieces of a line between its spaces (byte 32), without the empty ones
unfoldable pub words_of : List ℕ → List (List ℕ)
words_of line = filter (λ piece. not (is_empty piece)) (slice_split (is 32) line)
