-- Lengths with two bytes each.
use Rattle.std.proofs.Common.{◌≡◌, ◌∙◌, ℕ, zero, suc, ◌-◌, ◌%◌, List, [], ◌∷◌, ◌++◌, length, take, drop, append-nil, ◌≤◌, ◌+◌, ◌*◌, refl, ap, arith}
use Rattle.std.specs.Prelude.{slice_index}
use Rattle.std.proofs.lemmas.List.{drop_all}
use Rattle.seq_arith.specs.MessageGrammar.{lens_in}

-- a byte that is left over is no length
pub left_out : (bytes : List ℕ) (n : ℕ) → n ≡ length bytes - length bytes % 2 → lens_in (take n bytes) ≡ lens_in bytes
left_out [] zero is = refl
left_out [] (suc n) is = absurd (omega (arith, is))
left_out (high ∷ []) zero is = refl
left_out (high ∷ []) (suc n) is = absurd (omega (arith, is))
left_out (high ∷ low ∷ bytes) zero is = absurd (omega (arith, is))
left_out (high ∷ low ∷ bytes) (suc zero) is = absurd (omega (arith, is))
left_out (high ∷ low ∷ bytes) (suc (suc n)) is = ap (λ lens. (256 * high + low) ∷ lens) (left_out bytes n (omega (arith, is)))

pub first_length : (bytes : List ℕ) → 2 ≤ length bytes → lens_in bytes ≡ slice_index (lens_in bytes) 0 ∷ lens_in (drop 2 bytes)
first_length [] h = absurd (omega arith)
first_length (high ∷ []) h = absurd (omega arith)
first_length (high ∷ low ∷ bytes) h = refl

-- nothing is behind what fills its place
pub none_left : (bytes old : List ℕ) (n : ℕ) → length old ≡ n → bytes ++ drop n old ≡ bytes
none_left bytes old n is = ap (λ rest. bytes ++ rest) (drop_all n old (omega (arith, is))) ∙ append-nil bytes
