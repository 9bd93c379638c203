-- Lists cut in two.
use Rattle.std.proofs.Common.{◌≡◌, ℕ, List, [], ◌∷◌, length, refl, arith, ◌-◌, ◌++◌, drop, zero, suc, ◌∙◌, ◌+◌, ◌<◌, ◌≤◌, sym, ap, inl, inr}
use Rattle.std.proofs.lemmas.List.{drop_all, drop-append-le}
use Rattle.std.proofs.lemmas.Bool.{cases_lt}
use Rattle.std.proofs.Math.Seq.{drop-append-add}

pub empty_of_length : (xs : List ℕ) → length xs ≡ 0 → xs ≡ []
empty_of_length [] h = refl
empty_of_length (x ∷ xs) h = absurd (omega (arith, h))

pub drop_across : (n : ℕ) (xs ys : List ℕ) → drop n xs ++ drop (n - length xs) ys ≡ drop n (xs ++ ys)
drop_across zero [] ys = refl
drop_across (suc n) [] ys = let all : suc n - length {A = ℕ} [] ≡ suc n = omega arith in rw all refl
drop_across zero (x ∷ xs) ys = let all : 0 - length (x ∷ xs) ≡ 0 = omega arith in rw all refl
drop_across (suc n) (x ∷ xs) ys = let less : suc n - length (x ∷ xs) ≡ n - length xs = omega arith in rw less (drop_across n xs ys)

pub drop_append : (n : ℕ) (xs ys : List ℕ) → drop n (xs ++ ys) ≡ drop n xs ++ drop (n - length xs) ys
drop_append n xs ys = elim (cases_lt n (length xs)) [ inl less ↦ inside less | inr more ↦ beyond more ]
  where
    nothing : (n m : ℕ) → n < m → 0 ≡ n - m
    nothing n m h = omega (arith, h)

    inside : n < length xs → drop n (xs ++ ys) ≡ drop n xs ++ drop (n - length xs) ys
    inside h = drop-append-le n xs ys (omega (arith, h)) ∙ ap (λ k. drop n xs ++ drop k ys) (nothing n (length xs) h)

    whole : (n m : ℕ) → m ≤ n → n ≡ m + (n - m)
    whole n m h = omega (arith, h)

    beyond : length xs ≤ n → drop n (xs ++ ys) ≡ drop n xs ++ drop (n - length xs) ys
    beyond h = ap (λ k. drop k (xs ++ ys)) (whole n (length xs) h)
        ∙ (drop-append-add xs ys (n - length xs) ∙ ap (λ zs. zs ++ drop (n - length xs) ys) (sym (drop_all n xs h)))
