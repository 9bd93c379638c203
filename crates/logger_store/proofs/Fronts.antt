-- What an answer gives of an entry: a front of what comes after a place.
use Rattle.std.proofs.Common.{◌≡◌, ◌∙◌, ℕ, zero, suc, ◌-◌, ◌<◌, ◌≤◌, Bool, true, ap, refl, List, [], ◌∷◌, length, take, drop, min, arith}
use Rattle.std.specs.Prelude.{nat_le, slice_index}
use Rattle.std.specs.List.{list_all}
use Rattle.std.proofs.lemmas.Bool.{and_from, and_parts, leb-true}
use Rattle.std.proofs.lemmas.List.{length-take, length-drop}

pub front_length : (n from : ℕ) (xs : List ℕ) → length (take n (drop from xs)) ≡ min n (length xs - from)
front_length n from xs = length-take n (drop from xs) ∙ ap (min n) (length-drop from xs)

taken : (test : ℕ → Bool) (n : ℕ) (xs : List ℕ) → list_all test xs ≡ true → list_all test (take n xs) ≡ true
taken test zero xs all = refl
taken test (suc n) [] all = refl
taken test (suc n) (x ∷ xs) all =
    let parts = and_parts (test x) (list_all test xs) all in and_from (test x) (list_all test (take n xs)) parts.0 (taken test n xs parts.1)

left : (test : ℕ → Bool) (n : ℕ) (xs : List ℕ) → list_all test xs ≡ true → list_all test (drop n xs) ≡ true
left test zero xs all = all
left test (suc n) [] all = refl
left test (suc n) (x ∷ xs) all = left test n xs (and_parts (test x) (list_all test xs) all).1

pub front_holds : (test : ℕ → Bool) (n from : ℕ) (xs : List ℕ) → list_all test xs ≡ true → list_all test (take n (drop from xs)) ≡ true
front_holds test n from xs all = taken test n (drop from xs) (left test from xs all)

pub each_within : (most i : ℕ) (xs : List ℕ) → i < length xs → list_all (λ n. nat_le n most) xs ≡ true → slice_index xs i ≤ most
each_within most i [] there all = absurd (omega (arith, there))
each_within most zero (x ∷ xs) there all = leb-true x most (and_parts (nat_le x most) (list_all (λ n. nat_le n most) xs) all).0
each_within most (suc i) (x ∷ xs) there all = each_within most i xs (omega (arith, there)) (and_parts (nat_le x most) (list_all (λ n. nat_le n most) xs) all).1
