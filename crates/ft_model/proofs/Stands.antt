-- A part stands at an offset of a stream where the rest of the stream from there begins with it.
use Rattle.std.proofs.Common.{◌≡◌, ℕ, zero, suc, ◌+◌, ◌-◌, ◌≤◌, refl, subst, List, [], ◌∷◌, ◌++◌, length, take, drop, drop-drop, arith}
use Rattle.ft_model.specs.Growth.{IsPrefix}
use Rattle.ft_model.proofs.Lists.{take_first, prefix_trans}
use Rattle.ft_model.proofs.Fetching.{join_front}

pub nothing_first : {A : Type 0} (whole : List A) → IsPrefix [] whole
nothing_first whole = (whole, refl)

drop_more : {A : Type 0} (k : ℕ) (xs rest : List A) → IsPrefix (drop k xs) (drop k (xs ++ rest))
drop_more zero xs rest = (rest, refl)
drop_more (suc k) [] rest = (drop (suc k) rest, refl)
drop_more (suc k) (x ∷ xs) rest = drop_more k xs rest

pub drop_prefix : {A : Type 0} (k : ℕ) (xs ys : List A) → IsPrefix xs ys → IsPrefix (drop k xs) (drop k ys)
drop_prefix k xs ys p = subst (λ l. IsPrefix (drop k xs) (drop k l)) p.1 (drop_more k xs p.0)

-- a part of a part
pub part_stands : {A : Type 0} (n k offset : ℕ) (part whole : List A) → IsPrefix part (drop offset whole) → IsPrefix (take n (drop k part)) (drop (offset + k) whole)
part_stands n k offset part whole p =
    let there : IsPrefix (drop k part) (drop (offset + k) whole) = subst (IsPrefix (drop k part)) (drop-drop k offset whole) (drop_prefix k part (drop offset whole) p) in
    prefix_trans (take n (drop k part)) (drop k part) (drop (offset + k) whole) (take_first n (drop k part)) there

-- a front, and what goes on from inside it, is a longer front
pub proceeds_all : {A : Type 0} (offset : ℕ) (front part whole : List A) → IsPrefix front whole → IsPrefix part (drop offset whole) → offset ≤ length front
    → IsPrefix (front ++ drop (length front - offset) part) whole
proceeds_all offset front part whole p q within =
    let at : offset + (length front - offset) ≡ length front = omega (arith, within) in
    join_front front (drop (length front - offset) part) whole p
    (subst (λ k. IsPrefix (drop (length front - offset) part) (drop k whole)) at
    (subst (IsPrefix (drop (length front - offset) part)) (drop-drop (length front - offset) offset whole) (drop_prefix (length front - offset) part (drop offset whole) q)))

pub take_nothing : (n k : ℕ) → take {A = ℕ} n (drop k []) ≡ []
take_nothing zero k = refl
take_nothing (suc n) zero = refl
take_nothing (suc n) (suc k) = refl
