-- An element by its number, counted from 1.
use Rattle.std.specs.Prelude.{ℕ, zero, suc, Option, None, List, slice_get}

abbrev pub at_number : {X : Type 0} → List X → ℕ → Option X
at_number xs zero = None
at_number xs (suc n) = slice_get xs n
