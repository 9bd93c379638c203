-- A file has one reading: each block says its length.
use Rattle.std.proofs.Common.{◌≡◌, ◌∙◌, ℕ, List, [], ◌∷◌, ◌++◌, length, refl, sym, ap, ap₂, subst, append_assoc}
use Rattle.std.specs.List.{AllByRecursion}
use Rattle.kept_log.specs.Format.{magic, salt_of, header, block, first_tip, next_tip, tip_behind, chain, HasBlocks, IsRound, BeginsNone}
use Rattle.kept_log.specs.declared.tip.Tip.{Tip}
use Rattle.kept_log.proofs.Blocks.{same_front, salt_long, header_long, block_once}

pub header_once : (made time xs ys : List ℕ) → length made ≡ 8 → length time ≡ 8 → header made ++ xs ≡ header time ++ ys → (made ≡ time) × (xs ≡ ys)
header_once made time xs ys eight also is =
    let parts = same_front (header made) (header time) xs ys (header_long made eight ∙ sym (header_long time also)) is in
    let behind = same_front magic magic (made ++ salt_of made) (time ++ salt_of time) refl parts.0 in
    ((same_front made time (salt_of made) (salt_of time) (eight ∙ sym also) behind.1).0, parts.1)

chain_once : (tip : Tip) (bodies others : List (List ℕ)) (s t : List ℕ) → length tip.salt ≡ 16 → AllByRecursion IsRound bodies → AllByRecursion IsRound others
    → BeginsNone (tip_behind tip bodies) s → BeginsNone (tip_behind tip others) t → chain tip bodies ++ s ≡ chain tip others ++ t → bodies ≡ others
chain_once tip [] [] s t salt small also none none_1 is = refl
chain_once tip [] (o ∷ others) s t salt small also none none_1 is =
    absurd (none o (chain (next_tip tip o) others ++ t) also.0 (is ∙ append_assoc (block tip o) (chain (next_tip tip o) others) t))
chain_once tip (b ∷ bodies) [] s t salt small also none none_1 is =
    absurd (none_1 b (chain (next_tip tip b) bodies ++ s) small.0 (sym is ∙ append_assoc (block tip b) (chain (next_tip tip b) bodies) s))
chain_once tip (b ∷ bodies) (o ∷ others) s t salt small also none none_1 is =
    let spread : block tip b ++ (chain (next_tip tip b) bodies ++ s) ≡ block tip o ++ (chain (next_tip tip o) others ++ t) =
    sym (append_assoc (block tip b) (chain (next_tip tip b) bodies) s) ∙ (is ∙ append_assoc (block tip o) (chain (next_tip tip o) others) t) in
    let once = block_once tip b o (chain (next_tip tip b) bodies ++ s) (chain (next_tip tip o) others ++ t) salt small.0 also.0 spread in
    let behind : chain (next_tip tip b) bodies ++ s ≡ chain (next_tip tip b) others ++ t = once.1 ∙ ap (λ (x : List ℕ). chain (next_tip tip x) others ++ t) (sym once.0) in
    ap₂ (λ (x : List ℕ) (xs : List (List ℕ)). x ∷ xs) once.0
    (chain_once (next_tip tip b) bodies others s t salt small.1 also.1 none (subst (λ (x : List ℕ). BeginsNone (tip_behind (next_tip tip x) others) t) (sym once.0) none_1) behind)

pub reads_once : (file made time : List ℕ) (bodies others : List (List ℕ)) → AllByRecursion IsRound bodies → AllByRecursion IsRound others
    → HasBlocks made bodies file → HasBlocks time others file → (made ≡ time) × (bodies ≡ others)
reads_once file made time bodies others small also a b =
    let spread : header made ++ (chain (first_tip made) bodies ++ a.tail) ≡ header time ++ (chain (first_tip time) others ++ b.tail) =
    sym (append_assoc (header made) (chain (first_tip made) bodies) a.tail) ∙ (sym a.is ∙ (b.is ∙ append_assoc (header time) (chain (first_tip time) others) b.tail)) in
    let once = header_once made time (chain (first_tip made) bodies ++ a.tail) (chain (first_tip time) others ++ b.tail) a.time b.time spread in
    let behind : chain (first_tip made) bodies ++ a.tail ≡ chain (first_tip made) others ++ b.tail =
    once.1 ∙ ap (λ (x : List ℕ). chain (first_tip x) others ++ b.tail) (sym once.0) in (
      once.0,
      chain_once (first_tip made) bodies others a.tail b.tail (salt_long made) small also a.none
          (subst (λ (x : List ℕ). BeginsNone (tip_behind (first_tip x) others) b.tail) (sym once.0) b.none) behind,
    )
