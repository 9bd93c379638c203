-- A choice, by its cases; and what is told by `Some`.
use Rattle.std.proofs.Common.{◌≡◌, Bool, true, false, Option, Some, None, is_some, refl, sym, ap, true≢false, ℕ}
use Rattle.std.proofs.lemmas.Bool.{false≢true}
use Rattle.std.specs.Option.{unwrap_or}
use Rattle.std.specs.Prelude.{if◌then◌else◌}

pub by_cases : {X : Type 0} (b : Bool) → (b ≡ true → X) → (b ≡ false → X) → X
by_cases true p q = p refl
by_cases false p q = q refl

pub same_some : {X : Type 0} {x y : X} → Some x ≡ Some y → x ≡ y
same_some {X} {x} e = ap (λ o. unwrap_or o x) e

pub holds_if : {X : Type 0} (P : X → Type 0) (b : Bool) (x y : X) → (b ≡ true → P x) → (b ≡ false → P y) → P (if b then x else y)
holds_if P true x y p q = p refl
holds_if P false x y p q = q refl

pub if_false : {X : Type 0} (b : Bool) (x y : X) → b ≡ false → (if b then x else y) ≡ y
if_false true x y h = absurd (false≢true (sym h))
if_false false x y h = refl

pub holds_either_way : {X : Type 0} (P : X → Type 0) (b : Bool) (x y : X) → P x → P y → P (if b then x else y)
holds_either_way P true x y p q = p
holds_either_way P false x y p q = q

pub some_if : {A : Type 0} (b : Bool) (o : Option A) (x : A) → (if b then o else None) ≡ Some x → (b ≡ true) × (o ≡ Some x)
some_if true o x e = (refl, e)
some_if false o x e = absurd (false≢true (ap is_some e))

pub if_true : {X : Type 0} (b : Bool) (x y : X) → b ≡ true → (if b then x else y) ≡ x
if_true true x y h = refl
if_true false x y h = absurd (true≢false (sym h))

pub if_none : (b : Bool) (o : Option ℕ) → o ≡ None → (if b then o else None) ≡ None
if_none true o e = e
if_none false o e = refl

pub of_if : {X Y : Type 0} (f : X → Y) (b : Bool) (x y : X) → f (if b then x else y) ≡ (if b then f x else f y)
of_if f true x y = refl
of_if f false x y = refl
