-- Lists in which no two elements have the same key: each element is the one that its key finds.
use Rattle.std.proofs.Common.{◌≡◌, ℕ, zero, suc, Bool, true, false, ◌||◌, cond, refl, sym, ap, ◌∙◌, subst, true≢false, find, is_some, Some, List, [], ◌∷◌, ◌++◌, map, length, slice_get}
use Rattle.std.specs.List.{AllByRecursion, list_any}
use Rattle.std.proofs.lemmas.Bool.{or_parts, or_right, or_from}
use Rattle.ft_io.specs.declared.Key.{Key}
use Rattle.ft_io.specs.Key.{key_eq}
use Rattle.ft_model.specs.Growth.{IsPrefix}
use Rattle.ft_model.specs.Keys.{has_key, AreDistinct}
use Rattle.ft_model.proofs.Lists.{or_left, same_key, key_is, none_is_some, some_is}
use Rattle.ft_io.proofs.Choices.{holds_if}

turns : (a b : Key) (t : Bool) → key_eq a b ≡ false → key_eq b a ≡ t → t ≡ false
turns a b false e f = refl
turns a b true e f = absurd (true≢false (sym (subst (λ k. key_eq a k ≡ true) (sym (same_key b a f)) (key_is a)) ∙ e))

pub key_eq_turns : (a b : Key) → key_eq a b ≡ false → key_eq b a ≡ false
key_eq_turns a b e = turns a b (key_eq b a) e refl

no_key_front : (key : Key) (xs ys : List Key) → has_key key (xs ++ ys) ≡ false → has_key key xs ≡ false
no_key_front key [] ys e = refl
no_key_front key (x ∷ xs) ys e =
    let parts = or_parts (key_eq x key) (has_key key (xs ++ ys)) e in
    or_from (key_eq x key) (has_key key xs) parts.0 (no_key_front key xs ys parts.1)

pub distinct_front : (xs ys : List Key) → AreDistinct (xs ++ ys) → AreDistinct xs
distinct_front [] ys d = tt
distinct_front (x ∷ xs) ys d = (no_key_front x xs ys d.0, distinct_front xs ys d.1)

no_key_more : (key : Key) (xs : List Key) (y : Key) → has_key key xs ≡ false → key_eq y key ≡ false → has_key key (xs ++ y ∷ []) ≡ false
no_key_more key [] y e f = or_from (key_eq y key) false f refl
no_key_more key (x ∷ xs) y e f =
    let parts = or_parts (key_eq x key) (has_key key xs) e in
    or_from (key_eq x key) (has_key key (xs ++ y ∷ [])) parts.0 (no_key_more key xs y parts.1 f)

-- a new key keeps them distinct
pub distinct_more : (xs : List Key) (y : Key) → AreDistinct xs → has_key y xs ≡ false → AreDistinct (xs ++ y ∷ [])
distinct_more [] y d e = (refl, tt)
distinct_more (x ∷ xs) y d e =
    let parts = or_parts (key_eq x y) (has_key y xs) e in
    (no_key_more x xs y d.0 (key_eq_turns x y parts.0), distinct_more xs y d.1 parts.1)

pub has_key_map : {A : Type 0} (of : A → Key) (key : Key) (xs : List A) → list_any (λ x. key_eq (of x) key) xs ≡ has_key key (map of xs)
has_key_map of key [] = refl
has_key_map of key (x ∷ xs) = ap (λ b. key_eq (of x) key || b) (has_key_map of key xs)

pub not_there : {A : Type 0} (of : A → Key) (key : Key) (xs : List A) (i : ℕ) (x : A) → has_key key (map of xs) ≡ false → slice_get xs i ≡ Some x → key_eq (of x) key ≡ false
not_there of key [] i x h e = none_is_some x e
not_there of key (y ∷ ys) zero x h e =
    subst (λ z. key_eq (of z) key ≡ false) (some_is y x e) (or_parts (key_eq (of y) key) (has_key key (map of ys)) h).0
not_there of key (y ∷ ys) (suc i) x h e = not_there of key ys i x (or_parts (key_eq (of y) key) (has_key key (map of ys)) h).1 e

-- each element is the one that its key finds
pub finds_itself : {A : Type 0} (of : A → Key) (xs : List A) (i : ℕ) (x : A) → AreDistinct (map of xs) → slice_get xs i ≡ Some x
    → find (λ y. key_eq (of y) (of x)) xs ≡ Some x
finds_itself of [] i x d e = none_is_some x e
finds_itself of (y ∷ ys) zero x d e =
    let same : y ≡ x = some_is y x e in
    subst (λ b. (cond b (Some y) (find (λ z. key_eq (of z) (of x)) ys)) ≡ Some x)
    (sym (subst (λ z. key_eq (of y) (of z) ≡ true) same (key_is (of y)))) e
finds_itself of (y ∷ ys) (suc i) x d e =
    let other : key_eq (of y) (of x) ≡ false = key_eq_turns (of x) (of y) (not_there of (of y) ys i x d.0 e) in
    subst (λ b. (cond b (Some y) (find (λ z. key_eq (of z) (of x)) ys)) ≡ Some x) (sym other) (finds_itself of ys i x d.1 e)

-- one more of the whole is a longer front
pub front_more : {A : Type 0} (xs rest : List A) (x : A) → slice_get (xs ++ rest) (length xs) ≡ Some x → IsPrefix (xs ++ x ∷ []) (xs ++ rest)
front_more [] [] x e = none_is_some x e
front_more [] (y ∷ rest) x e = (rest, ap (λ z. z ∷ rest) (sym (some_is y x e)))
front_more (y ∷ xs) rest x e =
    let more = front_more xs rest x e in
    (more.0, ap (λ l. y ∷ l) more.1)

pub all_from_get : {A : Type 0} (P : A → Type 0) (xs : List A) → ((i : ℕ) (x : A) → slice_get xs i ≡ Some x → P x) → AllByRecursion P xs
all_from_get P [] f = tt
all_from_get P (x ∷ xs) f = (f zero x refl, all_from_get P xs (λ i y e. f (suc i) y e))

-- a key that finds something stands among the keys, ..
pub found_has_key : {A : Type 0} (of : A → Key) (key : Key) (xs : List A) (x : A) → find (λ y. key_eq (of y) key) xs ≡ Some x → has_key key (map of xs) ≡ true
found_has_key of key [] x f = none_is_some x f
found_has_key of key (y ∷ ys) x f =
    holds_if (λ o. o ≡ Some x → (key_eq (of y) key || has_key key (map of ys)) ≡ true) (key_eq (of y) key) (Some y) (find (λ z. key_eq (of z) key) ys)
    (λ t g. or_left (key_eq (of y) key) (has_key key (map of ys)) t) (λ t g. or_right (key_eq (of y) key) (has_key key (map of ys)) (found_has_key of key ys x g)) f

-- .. and one that finds nothing doesn't
pub absent_key : {A : Type 0} (of : A → Key) (key : Key) (xs : List A) → is_some (find (λ y. key_eq (of y) key) xs) ≡ false → has_key key (map of xs) ≡ false
absent_key of key [] e = refl
absent_key of key (y ∷ ys) e =
    holds_if (λ o. is_some o ≡ false → (key_eq (of y) key || has_key key (map of ys)) ≡ false) (key_eq (of y) key) (Some y) (find (λ z. key_eq (of z) key) ys)
    (λ t g. absurd (true≢false g)) (λ t g. or_from (key_eq (of y) key) (has_key key (map of ys)) t (absent_key of key ys g)) e
