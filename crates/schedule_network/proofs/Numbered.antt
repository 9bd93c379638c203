-- No element has the number 0, nor one past the last.
use Rattle.std.proofs.Common.{◌≡◌, ℕ, zero, suc, ◌<◌, ◌≤◌, subst, sym, refl, None, List, [], ◌∷◌, length, slice_get, arith}
use Rattle.schedule_network.specs.AtNumber.{at_number}

pub none_at : {X : Type 0} (xs : List X) (n : ℕ) → n ≡ 0 → None ≡ at_number xs n
none_at xs n e = subst (λ k. None ≡ at_number xs k) (sym e) refl

pub past : {X : Type 0} (xs : List X) (m : ℕ) → length xs ≤ m → slice_get xs m ≡ None
past [] m h = refl
past (x ∷ xs) zero h = absurd (omega arith)
past (x ∷ xs) (suc m) h = past xs m (omega arith)

pub none_past : {X : Type 0} (xs : List X) (n : ℕ) → length xs < n → None ≡ at_number xs n
none_past xs zero h = refl
none_past xs (suc n) h = sym (past xs n (omega arith))
