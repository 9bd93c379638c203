-- How what is known of a value, or of an error, is passed on. (std has the laws on `OnOk` and `OnErr`.)
use Rattle.std.proofs.Common.{Result, Ok, Err, ◌≡◌, true, false, sym, ap, true≢false, Some, None, OnErr}
use Rattle.std.specs.Prelude.{IfOk, IfErr, IsErrAnd}

pub if_ok : {T E : Type 0} {P Q : T → Type 0} (r : Result T E) → ((x : T) → P x → Q x) → IfOk r P → IfOk r Q
if_ok (Ok x) f p = f x p
if_ok (Err e) f p = tt

pub if_err : {T E : Type 0} {P Q : E → Type 0} (r : Result T E) → ((e : E) → P e → Q e) → IfErr r P → IfErr r Q
if_err (Ok x) f p = tt
if_err (Err e) f p = f e p

-- of an error that `?` hands on
pub of_error : {T E : Type 0} {P Q : E → Type 0} (r : Result T E) → IsErrAnd r P → ((e : E) → P e → Q e) → IfErr r Q
of_error (Ok x) p f = absurd p
of_error (Err e) p f = f e p

pub none_is_not : {X A : Type 0} {x : X} → None ≡ Some x → A
none_is_not e = absurd (true≢false (sym (ap Rattle.std.specs.Option.is_some e)))

pub at_err : {T E P : Type 0} (r : Result T E) → P → OnErr r P
at_err (Ok x) p = tt
at_err (Err e) p = p
