-- A packet that is put before the last ones of a turn.
use Rattle.std.proofs.Common.{◌≡◌, ◌∙◌, ℕ, suc, ◌+◌, ◌-◌, ◌≤◌, sym, ap, arith, List, [], ◌∷◌, ◌++◌, length, take, drop}
use Rattle.std.specs.List.{insert}
use Rattle.std.proofs.lemmas.List.{length-take-le, take-take, drop-take}
use Rattle.std.proofs.Math.Seq.{take-append-add}
use Rattle.ft_model.specs.Wire.{Wire}
use Rattle.conn_marks.specs.MarkSends.{put_before}

parted : (n b : ℕ) → b ≤ n → n ≡ (n - b) + b
parted n b h = omega (arith, h)

less : (n b : ℕ) → n - b ≤ n
less n b = omega arith

one_more : (k m : ℕ) → k + m + 1 ≡ k + suc m
one_more k m = omega arith

pub placed : (n b : ℕ) (ps : List Wire) (x : Wire) → b ≤ n → n ≤ length ps → take (n + 1) (insert ps (n - b) x) ≡ put_before b (x ∷ []) (take n ps)
placed n b ps x low fits =
    let k : ℕ = n - b in
    let parts : n ≡ k + b = parted n b low in
    let small : k ≤ n = less n b in
    let within : k ≤ length ps = omega (arith, small, fits) in
    let front : length (take k ps) ≡ k = length-take-le k ps within in
    let whole : length (take n ps) - b ≡ k = ap (λ l. l - b) (length-take-le n ps fits) in
    let count : n + 1 ≡ length (take k ps) + suc b = ap (λ l. l + 1) parts ∙ (one_more k b ∙ ap (λ l. l + suc b) (sym front)) in
    let left : take k (take n ps) ≡ take k ps = take-take k n ps small in
    let right : drop k (take n ps) ≡ take b (drop k ps) = ap (λ l. drop k (take l ps)) parts ∙ drop-take k b ps in
    let there : put_before b (x ∷ []) (take n ps) ≡ take k ps ++ (x ∷ take b (drop k ps)) =
    ap (λ l. take l (take n ps) ++ ((x ∷ []) ++ drop l (take n ps))) whole ∙ (λ j. left j ++ (x ∷ right j)) in
    ap (λ l. take l (insert ps k x)) count ∙ (take-append-add (take k ps) (x ∷ drop k ps) (suc b) ∙ sym there)
