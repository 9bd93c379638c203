-- Lengths of reads, spelled with two bytes each.
use Rattle.std.proofs.Common.{◌≡◌, ◌∙◌, ℕ, ◌+◌, ◌*◌, ◌%◌, ◌<◌, ◌^◌, refl, ap, arith, List, [], ◌∷◌, ◌++◌, length}
use Rattle.std.specs.Int.{to_be_bytes, w16}
use Rattle.std.proofs.lemmas.List.{length-append}
use Rattle.seq_arith.specs.MessageGrammar.{lens_in}

-- so far these lengths are spelled, with two bytes each
pub record IsSpelled (bytes lengths : List ℕ) : Type 0 where
  pub read : lens_in bytes ≡ lengths
  pub even : length bytes % 2 ≡ 0

pub none_spelled : (bytes : List ℕ) → length bytes ≡ 0 → IsSpelled bytes []
none_spelled [] empty = record { read = refl; even = refl }
none_spelled (x ∷ bytes) empty = absurd (omega (arith, empty))

after_even : (bytes : List ℕ) (n : ℕ) → length bytes % 2 ≡ 0 → n < 2 ^ 16 → lens_in (bytes ++ to_be_bytes w16 n) ≡ lens_in bytes ++ n ∷ []
after_even [] n even small = ap (λ k. k ∷ []) (omega (arith, small))
after_even (high ∷ []) n even small = absurd (omega (arith, even))
after_even (high ∷ low ∷ bytes) n even small = ap (λ ls. (256 * high + low) ∷ ls) (after_even bytes n (omega (arith, even)) small)

pub one_more_spelled : (bytes lengths : List ℕ) (n : ℕ) → n < 2 ^ 16 → IsSpelled bytes lengths → IsSpelled (bytes ++ to_be_bytes w16 n) (lengths ++ n ∷ [])
one_more_spelled bytes lengths n small is = record {
  read = after_even bytes n is.even small ∙ ap (λ ls. ls ++ n ∷ []) is.read;
  even = let count : length (bytes ++ to_be_bytes w16 n) ≡ length bytes + 2 = length-append bytes (to_be_bytes w16 n) in omega (arith, count, is.even);
}
