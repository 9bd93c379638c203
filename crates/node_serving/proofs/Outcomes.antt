-- An outcome is one value.
use Rattle.std.proofs.Common.{◌≡◌, ◌∙◌, sym, ap, Result, Ok}

pub same_ok : {X E : Type 0} (r : Result X E) (x y : X) → r ≡ Ok x → r ≡ Ok y → x ≡ y
same_ok {X} {E} r x y a b = ap (λ o. Rattle.std.specs.Result.result_unwrap_or o x) (sym a ∙ b)
