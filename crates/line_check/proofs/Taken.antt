-- Words taken one after another.
use Rattle.std.proofs.Common.{◌≡◌, ℕ, zero, suc, ◌<◌, ◌-◌, List, [], ◌∷◌, drop, refl, sym, ap, ◌∙◌, arith}

pub dropped : (words : List (List ℕ)) → drop 1 (drop 1 words) ≡ drop 2 words
dropped [] = refl
dropped (word ∷ []) = refl
dropped (word ∷ next ∷ words) = refl

pub dropped_six : (words : List (List ℕ)) → drop 2 (drop 2 (drop 2 words)) ≡ drop 6 words
dropped_six [] = refl
dropped_six (a ∷ []) = refl
dropped_six (a ∷ b ∷ []) = refl
dropped_six (a ∷ b ∷ c ∷ []) = refl
dropped_six (a ∷ b ∷ c ∷ d ∷ []) = refl
dropped_six (a ∷ b ∷ c ∷ d ∷ e ∷ []) = refl
dropped_six (a ∷ b ∷ c ∷ d ∷ e ∷ f ∷ words) = refl

-- one word less is one word taken
pub one_less : (n : ℕ) (words : List (List ℕ)) (word : List ℕ) (more : List (List ℕ)) → words ≡ word ∷ more → 0 < n → drop (n - 1) more ≡ drop n words
one_less zero words word more e some = absurd (omega (arith, some))
one_less (suc n) words word more e some = let less : suc n - 1 ≡ n = omega arith in ap (λ k. drop k more) less ∙ sym (ap (drop (suc n)) e)

-- nothing follows the only word
pub none_after_one : (n : ℕ) (words : List (List ℕ)) (word : List ℕ) → words ≡ word ∷ [] → 0 < n → drop n words ≡ []
none_after_one zero words word e some = absurd (omega (arith, some))
none_after_one (suc n) words word e some = ap (drop (suc n)) e ∙ nothing n
  where
    nothing : (k : ℕ) → drop {A = List ℕ} k [] ≡ []
    nothing zero = refl
    nothing (suc k) = refl
