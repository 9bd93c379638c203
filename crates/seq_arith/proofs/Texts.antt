-- The lengths in a list of bytes, two bytes each.
use Rattle.std.proofs.Common.{◌≡◌, ℕ, List, arith, length, ◌/◌, [], ◌∷◌, refl}
use Rattle.seq_arith.specs.MessageGrammar.{lens_in}

pub lens_in_length : (bytes : List ℕ) → length (lens_in bytes) ≡ length bytes / 2
lens_in_length [] = refl
lens_in_length (high ∷ []) = refl
lens_in_length (high ∷ low ∷ bytes) = let rest = lens_in_length bytes in omega (arith, rest)
