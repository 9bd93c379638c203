-- Texts that are written one after another, as far as the writes go.
use Rattle.std.proofs.Common.{◌≡◌, ℕ, zero, suc, Option, None, Some, List, [], ◌∷◌, ◌++◌, take, refl, sym, ap, subst, MatchOption}
use Rattle.std.specs.Io.KnownBytes.{Appends}
use Rattle.ft_io.specs.Sink.{AppendsFront}

front_is : (n : ℕ) (a b : List ℕ) → (m : ℕ) × (take m (a ++ b) ≡ take n a)
front_is zero a b = (0, refl)
front_is (suc n) [] b = (0, refl)
front_is (suc n) (x ∷ a) b = let (m, e) = front_is n a b in (suc m, ap (λ l. x ∷ l) e)

-- a prefix of the first text
pub front_before : (old new : Option (List ℕ)) (a b : List ℕ) → AppendsFront old new a → AppendsFront old new (a ++ b)
front_before old new a b h = let (m, e) = front_is h.0 a b in (m, subst (Appends old new) (sym e) h.1)

pub at_some : {T : Type 0} (o : Option T) (P : Type 0) (Q R : T → Type 0) → ((x : T) → Q x → R x) → MatchOption o P Q → MatchOption o P R
at_some None P Q R f h = h
at_some (Some x) P Q R f h = f x h
