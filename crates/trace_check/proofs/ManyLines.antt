-- Lines that are written one after another: what is written, and what is still to be written, are all lines.
use Rattle.std.proofs.Common.{◌≡◌, ℕ, suc, ◌+◌, ◌<◌, ◌≤◌, List, [], ◌∷◌, ◌++◌, drop, length, get_or, append_assoc, append-nil, sym, ap, ap₂, ◌∙◌, arith}
use Rattle.std.proofs.Math.Seq.{drop-cons}
use Rattle.std.proofs.lemmas.List.{drop_all}

pub next_line : {X : Type 0} (lines : ℕ → List X → List ℕ) (line : ℕ → X → List ℕ) → ((n : ℕ) (x : X) (xs : List X) → lines n (x ∷ xs) ≡ line n x ++ lines (n + 1) xs)
    → (xs : List X) (first i n : ℕ) (x : X) (now after whole : List ℕ) → i < length xs → x ≡ get_or xs i x → n ≡ first + i → after ≡ now ++ line n x
    → now ++ lines (first + i) (drop i xs) ≡ whole → after ++ lines (first + (i + 1)) (drop (i + 1) xs) ≡ whole
next_line lines line cut xs first i n x now after whole within is number written so_far =
    let rest : List _ = drop (suc i) xs in
    let front : drop i xs ≡ x ∷ rest = drop-cons xs i x within ∙ ap (λ y. y ∷ rest) (sym is) in
    let next : first + (i + 1) ≡ first + i + 1 = omega arith in
    let more : i + 1 ≡ suc i = omega arith in
    ap₂ (λ k j. after ++ lines k (drop j xs)) next more
    ∙ (ap (λ t. t ++ lines (first + i + 1) rest) (written ∙ ap (λ k. now ++ line k x) number)
    ∙ (append_assoc now (line (first + i) x) (lines (first + i + 1) rest)
    ∙ (ap (λ t. now ++ t) (sym (ap (lines (first + i)) front ∙ cut (first + i) x rest)) ∙ so_far)))

pub all_lines : {X : Type 0} (lines : ℕ → List X → List ℕ) → ((n : ℕ) → lines n [] ≡ []) → (xs : List X) (first i : ℕ) (now whole : List ℕ) → length xs ≤ i
    → now ++ lines (first + i) (drop i xs) ≡ whole → now ≡ whole
all_lines lines none xs first i now whole past so_far =
    sym (append-nil now) ∙ (ap (λ t. now ++ t) (sym (ap (lines (first + i)) (drop_all i xs past) ∙ none (first + i))) ∙ so_far)
