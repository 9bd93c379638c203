-- Bytes that are laid over places one after another.
use Rattle.std.proofs.Common.{◌≡◌, ℕ, zero, suc, ◌+◌, ◌<◌, refl, ap, subst, arith, Option, Some, None, List, [], ◌∷◌, ◌++◌, length}
use Rattle.std.proofs.Math.ListN.{set}
use Rattle.tcp_rules.specs.Early.{laid}

pub nothing_laid : (at : ℕ) (bytes : List ℕ) (text : List (Option ℕ)) → length bytes ≡ 0 → laid at bytes text ≡ text
unfolding laid
nothing_laid zero [] text none = refl
nothing_laid (suc k) [] text none = refl
nothing_laid at (x ∷ bytes) text none = absurd (omega (arith, none))

-- the first byte, and then the others from the next place on
one_first : (at : ℕ) (x : ℕ) (bytes : List ℕ) (text : List (Option ℕ)) → laid at (x ∷ bytes) text ≡ laid (suc at) bytes (laid at (x ∷ []) text)
unfolding laid
one_first zero x [] [] = refl
one_first zero x (y ∷ bytes) [] = refl
one_first zero x [] (place ∷ text) = refl
one_first zero x (y ∷ bytes) (place ∷ text) = refl
one_first (suc k) x [] [] = ap (λ t. None ∷ t) (one_first k x [] [])
one_first (suc k) x (y ∷ bytes) [] = ap (λ t. None ∷ t) (one_first k x (y ∷ bytes) [])
one_first (suc k) x [] (place ∷ text) = ap (λ t. place ∷ t) (one_first k x [] text)
one_first (suc k) x (y ∷ bytes) (place ∷ text) = ap (λ t. place ∷ t) (one_first k x (y ∷ bytes) text)

pub laid_one_first : (at : ℕ) (x : ℕ) (bytes : List ℕ) (text : List (Option ℕ)) → laid at (x ∷ bytes) text ≡ laid (at + 1) bytes (laid at (x ∷ []) text)
laid_one_first at x bytes text =
    let next : suc at ≡ at + 1 = omega arith in
    subst (λ n. laid at (x ∷ bytes) text ≡ laid n bytes (laid at (x ∷ []) text)) next (one_first at x bytes text)

-- within the places a byte replaces the one that is there ..
pub laid_within : (at x : ℕ) (text : List (Option ℕ)) → at < length text → laid at (x ∷ []) text ≡ set text at (Some x)
unfolding laid
laid_within at x [] less = absurd (omega (arith, less))
laid_within zero x (place ∷ text) less = refl
laid_within (suc k) x (place ∷ text) less = ap (λ t. place ∷ t) (laid_within k x text (omega (arith, less)))

-- .. and directly after them it is appended
pub laid_after : (at x : ℕ) (text : List (Option ℕ)) → length text ≡ at → laid at (x ∷ []) text ≡ text ++ Some x ∷ []
unfolding laid
laid_after zero x [] is = refl
laid_after (suc k) x [] is = absurd (omega (arith, is))
laid_after zero x (place ∷ text) is = absurd (omega (arith, is))
laid_after (suc k) x (place ∷ text) is = ap (λ t. place ∷ t) (laid_after k x text (omega (arith, is)))

-- empty places before the first byte make no difference
padded_one : (at x : ℕ) (bytes : List ℕ) (text : List (Option ℕ)) → length text < at → laid at (x ∷ bytes) (text ++ None ∷ []) ≡ laid at (x ∷ bytes) text
unfolding laid
padded_one zero x bytes text less = absurd (omega (arith, less))
padded_one (suc k) x bytes [] less = refl
padded_one (suc k) x bytes (place ∷ text) less = ap (λ t. place ∷ t) (padded_one k x bytes text (omega (arith, less)))

pub padded : (at : ℕ) (bytes : List ℕ) (text : List (Option ℕ)) → 0 < length bytes → length text < at → laid at bytes (text ++ None ∷ []) ≡ laid at bytes text
padded at [] text some less = absurd (omega (arith, some))
padded at (x ∷ bytes) text some less = padded_one at x bytes text less
