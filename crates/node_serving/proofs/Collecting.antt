-- One more element of a list is taken.
use Rattle.std.proofs.Common.{◌≡◌, ◌∙◌, ℕ, zero, suc, ◌+◌, sym, ap, ap₂, subst, arith, true≢false, List, [], ◌∷◌, ◌++◌, map, take, slice_get, Some, append_assoc}
use Rattle.std.specs.List.{AllByRecursion}
use Rattle.std.specs.Option.{option_map, is_some, unwrap_or}
use Rattle.std.proofs.lemmas.List.{map-append}
use Rattle.ft_model.proofs.Lists.{all_append}
use Rattle.std.proofs.Math.Seq.{take-suc}
use Rattle.std.proofs.lemmas.Option.{slice_get_within, get_or_from_slice_get}

pub take_more : {X : Type 0} (xs : List X) (i : ℕ) (x : X) → slice_get xs i ≡ Some x → take (i + 1) xs ≡ take i xs ++ x ∷ []
take_more xs i x at =
    let long = slice_get_within xs i x at in
    let next : i + 1 ≡ suc i = omega arith in
    ap (λ n. take n xs) next ∙ (take-suc xs i x long ∙ ap (λ y. take i xs ++ y ∷ []) (get_or_from_slice_get xs i x x at))

-- one more packet of a turn is kept
pub one_more : {X Y : Type 0} (f : X → Y) (xs : List X) (i : ℕ) (x : X) (ys : List Y) → slice_get xs i ≡ Some x
    → (ys ++ map f (take i xs)) ++ f x ∷ [] ≡ ys ++ map f (take (i + 1) xs)
one_more f xs i x ys at =
    append_assoc ys (map f (take i xs)) (f x ∷ []) ∙ ap (λ zs. ys ++ zs) (sym (map-append f (take i xs) (x ∷ [])) ∙ ap (map f) (sym (take_more xs i x at)))

-- the entry at a place, from its key and its value
pub entry_at : {K X : Type 0} (es : List (K × X)) (i : ℕ) (key : K) (x : X) → option_map (λ e. e.0) (slice_get es i) ≡ Some key → slice_get (map (λ e. e.1) es) i ≡ Some x
    → slice_get es i ≡ Some (key, x)
entry_at [] i key x keyed valued = absurd (true≢false (sym (ap is_some valued)))
entry_at (e ∷ es) zero key x keyed valued = ap₂ (λ a b. Some (a, b)) (ap (λ o. unwrap_or o key) keyed) (ap (λ o. unwrap_or o x) valued)
entry_at (e ∷ es) (suc i) key x keyed valued = entry_at es i key x keyed valued

-- what holds of the first ones and of the next one
pub all_more : {X : Type 0} (P : X → Type 0) (xs : List X) (i : ℕ) (x : X) → AllByRecursion P (take i xs) → slice_get xs i ≡ Some x → P x → AllByRecursion P (take (i + 1) xs)
all_more P xs i x all at holds = subst (AllByRecursion P) (sym (take_more xs i x at)) (all_append P (take i xs) (x ∷ []) all (holds, tt))

pub entry_with : {K X : Type 0} (es : List (K × X)) (i : ℕ) (x : X) → slice_get (map (λ e. e.1) es) i ≡ Some x → (key : K) × (slice_get es i ≡ Some (key, x))
entry_with [] i x valued = absurd (true≢false (sym (ap is_some valued)))
entry_with (e ∷ es) zero x valued = (e.0, ap (λ y. Some (e.0, y)) (ap (λ o. unwrap_or o x) valued))
entry_with (e ∷ es) (suc i) x valued = entry_with es i x valued
