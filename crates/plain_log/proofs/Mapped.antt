-- What a loop that changes each element in place keeps: the first elements are changed, and the others are as they were.
use Rattle.std.proofs.Common.{◌≡◌, ◌∙◌, sym, ap, ℕ, ◌+◌, ◌-◌, ◌<◌, List, [], ◌∷◌, ◌++◌, length, get_or, take, drop, map, arith, add-zero, length-drop}
use Rattle.std.proofs.Math.ListN.{set}
use Rattle.std.proofs.lemmas.List.{get_or-drop, map-append, take_more, take_more_set, drop-set-lt, drop-drop}

pub record IsMapped {X : Type 0} (f : X → X) (i : ℕ) (start now : List X) : Type 0 where
  pub done : take i now ≡ map f (take i start)
  pub left : drop i now ≡ drop i start

-- the element at the front of what is left is that of the start
same_next : {X : Type 0} (i : ℕ) (start now : List X) (d : X) → drop i now ≡ drop i start → get_or now i d ≡ get_or start i d
same_next i start now d e =
    let a : get_or (drop i now) 0 d ≡ get_or now (i + 0) d = get_or-drop i now 0 d in
    let b : get_or (drop i start) 0 d ≡ get_or start (i + 0) d = get_or-drop i start 0 d in
    rw add-zero at (sym a ∙ ap (λ xs. get_or xs 0 d) e ∙ b)

pub mapped_more : {X : Type 0} (f : X → X) (i : ℕ) (start now : List X) (d y : X) → i < length now → IsMapped f i start now → y ≡ f (get_or now i d) → IsMapped f (i + 1) start (set now i y)
mapped_more f i start now d y h m w =
    let long : length now - i ≡ length start - i = sym (length-drop i now) ∙ ap length m.left ∙ length-drop i start in
    let h' : i < length start = omega arith in
    let same : get_or now i d ≡ get_or start i d = same_next i start now d m.left in
    record {
      done = take_more_set now i y h ∙ ap (λ xs. xs ++ y ∷ []) m.done ∙ ap (λ z. map f (take i start) ++ z ∷ []) (w ∙ ap f same) ∙ sym (map-append f (take i start) (get_or start i d ∷ [])) ∙ ap (map f) (sym (take_more start i d h'));
      left = drop-set-lt (i + 1) now i y (omega arith) ∙ sym (drop-drop 1 i now) ∙ ap (drop 1) m.left ∙ drop-drop 1 i start;
    }
