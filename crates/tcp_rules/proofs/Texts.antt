-- The text between two offsets.
use Rattle.std.proofs.Common.{◌≡◌, ℕ, ◌+◌, ◌-◌, ◌≤◌, ◌<◌, List, take, drop, ap, sym, arith, ◌∙◌, ⊎_elim, length, length-take}
use Rattle.std.specs.Prelude.{ℤ, pos, negsuc, ◌+ℤ◌, nat_abs}
use Rattle.std.proofs.lemmas.Int.{ints}
use Rattle.std.proofs.lemmas.Bool.{cases_lt}
use Rattle.std.proofs.lemmas.List.{drop-take}
use Rattle.std.proofs.Math.ListN.{drop_of_length-le}
use Rattle.tcp_rules.specs.Arrival.{below, text_between}

-- what is cut and then shortened in front is shortened in front and then cut
cut : (a b n : ℕ) (text : List ℕ) → n ≡ b - a → drop a (take b text) ≡ take n (drop a text)
cut a b n text e = ⊎_elim (λ (h : b < a).
    let short : length (take b text) ≤ a = omega (arith, length-take b text)
    in let none : n ≡ 0 = omega arith
    in drop_of_length-le (take b text) short ∙ sym (ap (λ k. take k (drop a text)) none))
    (λ (h : a ≤ b). let there : b ≡ a + n = omega arith in ap (λ k. drop a (take k text)) there ∙ drop-take a n text) (cases_lt b a)

pub text_between_is_cut : (from to : ℕ) (first : ℤ) (text : List ℕ)
    → text_between from to first text ≡ take (to - nat_abs (first +ℤ pos (below from first))) (drop (below from first) text)
unfolding text_between
text_between_is_cut from to (pos first) text = cut (from - first) (to - first) (to - (first + (from - first))) text (omega arith)
text_between_is_cut from to (negsuc first) text = cut (from + first + 1) (to + first + 1) (to - nat_abs (negsuc first +ℤ pos (from + first + 1))) text (omega (arith, ints))
