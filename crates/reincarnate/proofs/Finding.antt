-- The first entry of a key.
use Rattle.std.proofs.Common.{◌≡◌, ℕ, zero, suc, ◌+◌, ◌<◌, ◌≤◌, ◌∙◌, Bool, true, false, Some, None, List, [], ◌∷◌, length, drop, find, get_or, ap, sym, arith, if◌then◌else◌}
use Rattle.std.proofs.lemmas.List.{drop_more}
use Rattle.std.proofs.Math.Seq.{drop-nil}

at_place : {X : Type 0} (xs : List X) (i : ℕ) (x : X) → i < length xs → x ≡ get_or xs i x → drop i xs ≡ x ∷ drop (i + 1) xs
at_place xs i x h is = drop_more xs i x h ∙ ap (λ k. k ∷ drop (i + 1) xs) (sym is)

pub found_here : {X : Type 0} (p : X → Bool) (xs : List X) (i : ℕ) (x : X) → i < length xs → x ≡ get_or xs i x → p x ≡ true → find p (drop i xs) ≡ Some x
found_here p xs i x h is passes = ap (find p) (at_place xs i x h is) ∙ ap (λ b. if b then Some x else find p (drop (i + 1) xs)) passes

pub passed_here : {X : Type 0} (p : X → Bool) (xs : List X) (i : ℕ) (x : X) → i < length xs → x ≡ get_or xs i x → p x ≡ false → find p (drop i xs) ≡ find p (drop (i + 1) xs)
passed_here p xs i x h is fails = ap (find p) (at_place xs i x h is) ∙ ap (λ b. if b then Some x else find p (drop (i + 1) xs)) fails

pub none_here : {X : Type 0} (p : X → Bool) (xs : List X) (i : ℕ) → length xs ≤ i → find p (drop i xs) ≡ None
none_here p [] i h = ap (find p) (drop-nil i)
none_here p (x ∷ xs) zero h = absurd (omega (arith, h))
none_here p (x ∷ xs) (suc i) h = none_here p xs i (omega (arith, h))
