-- Lists of numbers, joined by commas.
use Rattle.std.proofs.Common.{◌≡◌, ℕ, ◌+◌, ◌-◌, ◌*◌, ◌<◌, ◌≤◌, ◌^◌, List, [], ◌∷◌, ◌++◌, length, map, take, drop, get_or, decimal, refl, sym, ap, ◌∙◌, arith, append-nil, append_assoc}
use Rattle.std.specs.List.{join_with_byte}
use Rattle.std.proofs.Math.Seq.{take-length}
use Rattle.seq_arith.specs.MessageGrammar.{lens_in}
use Rattle.ft_model.specs.Texts.{list_text, behind_commas}
use Rattle.ft_model.proofs.ReportParts.{joined_behind, list_text_cons, list_text_nil}

pub no_numbers : (numbers : List ℕ) → length numbers ≡ 0 → list_text numbers ≡ 45 ∷ []
no_numbers [] e = list_text_nil
no_numbers (x ∷ numbers) e = absurd (omega arith)

pub numbers_cons : (x : ℕ) (others : List ℕ) → x < 2 ^ 16 → list_text (x ∷ others) ≡ decimal x ++ behind_commas others
numbers_cons x others below = list_text_cons x others (omega (arith, below))

-- of fewer bytes than a length has nothing is joined
pub nothing_joined : (lens line : List ℕ) → length lens < 2 → line ≡ line ++ join_with_byte 44 (map decimal (lens_in lens))
nothing_joined [] line e = sym (append-nil line)
nothing_joined (high ∷ []) line e = sym (append-nil line)
nothing_joined (high ∷ low ∷ lens) line e = absurd (omega arith)

-- the first length, and the others after commas
pub joined_more : (lens old mid new others : List ℕ) (high low n : ℕ) → lens ≡ high ∷ low ∷ others → n ≡ 256 * high + low → mid ≡ old ++ decimal n → new ≡ mid ++ behind_commas (lens_in others)
    → new ≡ old ++ join_with_byte 44 (map decimal (lens_in lens))
joined_more lens old mid new others high low n is number first behind =
    behind ∙ ap (λ m. m ++ behind_commas (lens_in others)) (first ∙ ap (λ k. old ++ decimal k) number)
    ∙ append_assoc old (decimal (256 * high + low)) (behind_commas (lens_in others))
    ∙ ap (λ text. old ++ text) (sym (joined_behind (256 * high + low) (lens_in others)))
    ∙ ap (λ bytes. old ++ join_with_byte 44 (map decimal (lens_in bytes))) (sym is)

-- the first two of a list, and the others
pub two_first : (xs : List ℕ) → 2 ≤ length xs → xs ≡ get_or xs 0 0 ∷ get_or xs 1 0 ∷ take (length xs - 2) (drop 2 xs)
two_first [] h = absurd (omega arith)
two_first (x ∷ []) h = absurd (omega arith)
two_first (x ∷ y ∷ xs) h = let others : length (x ∷ y ∷ xs) - 2 ≡ length xs = omega arith in rw (others, take-length xs) refl
