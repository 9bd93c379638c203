-- Full pages.
use Rattle.std.proofs.Common.{◌≡◌, ◌∙◌, ℕ, suc, ◌+◌, ◌*◌, ◌-◌, ◌%◌, ◌<◌, ◌≤◌, refl, ap, arith, List, [], ◌∷◌, ◌++◌, length}
use Rattle.std.specs.List.{flat_map, All}
use Rattle.std.proofs.lemmas.List.{length-append}
use Rattle.std.specs.Prelude.{Option, None, Some, IfSome, unwrap_or, take}
use Rattle.std.proofs.lemmas.List.{length-take}
use Rattle.std.proofs.lemmas.List.Elements.{All-push}
use Rattle.log_pages.specs.Pages.{IsFull, IsLast, room_after}

pub rest : {X : Type 0} (P : X → Type 0) (x : X) (xs : List X) → All P (x ∷ xs) → All P xs
rest P x xs h = λ k d lt. h (suc k) d (omega arith)

-- the room of a last page
abbrev pub room_of : Option (List ℕ) → ℕ
room_of None = 0
room_of (Some p) = 4096 - length p

-- full pages hold 4,096 bytes each
pub length_full : (pages : List (List ℕ)) → All IsFull pages → length (flat_map (λ p. p) pages) ≡ 4096 * length pages
length_full [] h = refl
length_full (p ∷ ps) h =
    let one : length p ≡ 4096 = h 0 p (omega arith) in
    let more = length_full ps (rest IsFull p ps h) in
    length-append p (flat_map (λ q. q) ps) ∙ omega arith

-- the length of all pages
pub length_is : (pages : List (List ℕ)) (last : Option (List ℕ)) → All IsFull pages
    → length (flat_map (λ p. p) pages ++ unwrap_or last []) ≡ 4096 * length pages + length (unwrap_or last [])
length_is pages last h = length-append (flat_map (λ p. p) pages) (unwrap_or last []) ∙ ap (λ n. n + length (unwrap_or last [])) (length_full pages h)

mod_of : (k m : ℕ) → 0 < m → m ≤ 4096 → (4096 - (4096 * k + m) % 4096) % 4096 ≡ 4096 - m
mod_of k m some within = omega arith

-- what the page of the last byte still takes
pub room_is : (pages : List (List ℕ)) (last : Option (List ℕ)) → All IsFull pages → IfSome last IsLast
    → room_after (length (flat_map (λ p. p) pages ++ unwrap_or last [])) ≡ room_of last
room_is pages None h l = ap room_after (length_is pages None h) ∙ none_of (length pages)
  where
    none_of : (k : ℕ) → (4096 - (4096 * k + 0) % 4096) % 4096 ≡ 0
    none_of k = omega arith
room_is pages (Some p) h l = ap room_after (length_is pages (Some p) h) ∙ mod_of (length pages) (length p) l.some l.within

pub all_more : {X : Type 0} (P : X → Type 0) (xs : List X) (x : X) → All P xs → P x → All P (xs ++ x ∷ [])
all_more P xs x h p = All-push P xs x h p

pub filled : (page bytes : List ℕ) (room : ℕ) → length page + room ≡ 4096 → room ≤ length bytes → IsFull (page ++ take room bytes)
filled page bytes room e fits = length-append page (take room bytes) ∙ (ap (λ n. length page + n) (length-take room bytes) ∙ omega arith)
