-- The letters of the alphabet, over and over: one more, and how many.
use Rattle.std.proofs.Common.{◌≡◌, ℕ, zero, suc, ◌+◌, ◌%◌, [], ◌∷◌, ◌++◌, length, refl, add-one, arith, length-append}
use Rattle.ft_model.specs.Schedule.{letters}

pub letters_none : letters 0 ≡ []
unfolding letters
letters_none = refl

pub letters_more : (i : ℕ) → letters (i + 1) ≡ letters i ++ (97 + i % 26) ∷ []
unfolding letters
letters_more i = rw add-one refl

pub length_letters : (n : ℕ) → length (letters n) ≡ n
unfolding letters
length_letters zero = refl
length_letters (suc n) = omega (arith, length-append {A = ℕ}, length_letters n)
