-- Lists: what holds of all elements, look-ups, and fronts.
use Rattle.std.proofs.Common.{◌≡◌, ℕ, zero, suc, Bool, true, false, ◌&&◌, ◌||◌, refl, sym, ap, ap₂, ◌∙◌, subst, true≢false, inl, inr, ◌⊎◌, not, find, is_none, Option, Some, None, List, [], ◌∷◌, ◌++◌, map, slice_get, append-nil, append_assoc, take, drop, take-append-drop, eqb-true, eq-eqb, if◌then◌else◌, ◌==◌, ◌<◌, arith, length}
use Rattle.std.specs.List.{AllByRecursion}
use Rattle.std.proofs.lemmas.Bool.{and_parts}
use Rattle.ft_io.specs.declared.Key.{Key}
use Rattle.ft_io.specs.Key.{key_eq}
use Rattle.ft_model.specs.Growth.{IsPrefix}

pub or_cases : (a b : Bool) → (a || b) ≡ true → (a ≡ true) ⊎ (b ≡ true)
or_cases true b e = inl refl
or_cases false b e = inr e

pub or_second : (a b : Bool) → (a || b) ≡ true → a ≡ false → b ≡ true
or_second true b e f = absurd (true≢false f)
or_second false b e f = e

pub three_true : (a b c : Bool) → a ≡ true → b ≡ true → c ≡ false → (a && b && not c) ≡ true
three_true true true false a b c = refl
three_true false b c e f g = absurd (true≢false (sym e))
three_true true false c e f g = absurd (true≢false (sym f))
three_true true true true e f g = absurd (true≢false g)

pub or_left : (a b : Bool) → a ≡ true → (a || b) ≡ true
or_left true b e = refl
or_left false b e = absurd (true≢false (sym e))

pub all_weaker : {A : Type 0} (P Q : A → Type 0) (xs : List A) → ((x : A) → P x → Q x) → AllByRecursion P xs → AllByRecursion Q xs
all_weaker P Q [] f a = tt
all_weaker P Q (x ∷ xs) f a = (f x a.0, all_weaker P Q xs f a.1)

pub all_both : {A : Type 0} (P Q R : A → Type 0) (xs : List A) → ((x : A) → P x → Q x → R x) → AllByRecursion P xs → AllByRecursion Q xs → AllByRecursion R xs
all_both P Q R [] f a b = tt
all_both P Q R (x ∷ xs) f a b = (f x a.0 b.0, all_both P Q R xs f a.1 b.1)

pub all_of : {A : Type 0} (P : A → Type 0) (xs : List A) → ((x : A) → P x) → AllByRecursion P xs
all_of P [] f = tt
all_of P (x ∷ xs) f = (f x, all_of P xs f)

pub all_map : {A B : Type 0} (P : B → Type 0) (f : A → B) (xs : List A) → AllByRecursion (λ x. P (f x)) xs → AllByRecursion P (map f xs)
all_map P f [] a = tt
all_map P f (x ∷ xs) a = (a.0, all_map P f xs a.1)

pub all_front : {A : Type 0} (P : A → Type 0) (xs : List A) (y : A) → AllByRecursion P (xs ++ y ∷ []) → AllByRecursion P xs × P y
all_front P [] y a = (tt, a.0)
all_front P (x ∷ xs) y a = let more = all_front P xs y a.1 in ((a.0, more.0), more.1)

pub take_first : {A : Type 0} (n : ℕ) (xs : List A) → IsPrefix (take n xs) xs
take_first n xs = (drop n xs, take-append-drop n xs)

pub all_append : {A : Type 0} (P : A → Type 0) (xs ys : List A) → AllByRecursion P xs → AllByRecursion P ys → AllByRecursion P (xs ++ ys)
all_append P [] ys a b = b
all_append P (x ∷ xs) ys a b = (a.0, all_append P xs ys a.1 b)

pub none_is_some : {A : Type 0} {P : Type 0} (x : A) → None ≡ Some x → P
none_is_some x e = absurd (true≢false (ap is_none e))

pub some_is : {A : Type 0} (x y : A) → Some x ≡ Some y → x ≡ y
some_is x y e = cc

pub all_slice_get : {A : Type 0} (P : A → Type 0) (xs : List A) (i : ℕ) (x : A) → AllByRecursion P xs → slice_get xs i ≡ Some x → P x
all_slice_get P [] i x a e = none_is_some x e
all_slice_get P (y ∷ ys) zero x a e = subst P (some_is y x e) a.0
all_slice_get P (y ∷ ys) (suc i) x a e = all_slice_get P ys i x a.1 e

chosen : {A : Type 0} {P : Type 0} (b : Bool) (x y : Option A) (z : Option A) → (if b then x else y) ≡ z → (b ≡ true → x ≡ z → P) → (b ≡ false → y ≡ z → P) → P
chosen true x y z e f g = f refl e
chosen false x y z e f g = g refl e

-- what is found passes the test, and has what all have
pub found_passes : {A : Type 0} (p : A → Bool) (xs : List A) (x : A) → find p xs ≡ Some x → p x ≡ true
found_passes p [] x e = none_is_some x e
found_passes p (y ∷ ys) x e =
    chosen (p y) (Some y) (find p ys) (Some x) e (λ t s. subst (λ z. p z ≡ true) (some_is y x s) t) (λ t s. found_passes p ys x s)

pub all_find : {A : Type 0} (P : A → Type 0) (p : A → Bool) (xs : List A) (x : A) → AllByRecursion P xs → find p xs ≡ Some x → P x
all_find P p [] x a e = none_is_some x e
all_find P p (y ∷ ys) x a e =
    chosen (p y) (Some y) (find p ys) (Some x) e (λ t s. subst P (some_is y x s) a.0) (λ t s. all_find P p ys x a.1 s)

pub same_key : (a b : Key) → key_eq a b ≡ true → a ≡ b
same_key a b e =
    let parts = and_parts (a.ip == b.ip) (a.port == b.port) e in
    let ip : a.ip ≡ b.ip = eqb-true _ _ parts.0 in
    let port : a.port ≡ b.port = eqb-true _ _ parts.1 in
    ap₂ (λ (x y : ℕ). let k : Key = record { ip = x; port = y } in k) ip port

pub key_is : (a : Key) → key_eq a a ≡ true
key_is a = ap₂ ◌&&◌ (eq-eqb a.ip a.ip refl) (eq-eqb a.port a.port refl)

pub prefix_refl : {A : Type 0} (xs : List A) → IsPrefix xs xs
prefix_refl xs = ([], append-nil xs)

pub prefix_more : {A : Type 0} (xs ys : List A) → IsPrefix xs (xs ++ ys)
prefix_more xs ys = (ys, refl)

pub prefix_trans : {A : Type 0} (xs ys zs : List A) → IsPrefix xs ys → IsPrefix ys zs → IsPrefix xs zs
prefix_trans xs ys zs p q = (p.0 ++ q.0, sym (append_assoc xs p.0 q.0) ∙ (ap (λ l. l ++ q.0) p.1 ∙ q.1))

pub index_within : {A : Type 0} (xs : List A) (i : ℕ) (x : A) → slice_get xs i ≡ Some x → i < length xs
index_within [] i x e = none_is_some x e
index_within (y ∷ xs) zero x e = omega arith
index_within (y ∷ xs) (suc i) x e = let less : i < length xs = index_within xs i x e in omega (arith, less)
