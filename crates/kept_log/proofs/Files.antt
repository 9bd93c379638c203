-- A file that is read: what was read, and what is left.
use Rattle.std.proofs.Common.{◌≡◌, ◌∙◌, ℕ, Option, Some, None, List, [], ◌++◌, refl, sym, subst, arith, ◌≤◌}
use Rattle.std.specs.Io.KnownBytes.{Consumes, IsAtEnd}
use Rattle.ft_io.proofs.Choices.{same_some}
use Rattle.ft_io.specs.Faults.{Rose}
use Rattle.ft_io.specs.Reported.{Reports}
use Rattle.ft_io.proofs.Recordings.{reports_on}

pub none_left : (known : Option (List ℕ)) (left : List ℕ) → IsAtEnd known → known ≡ Some left → left ≡ []
none_left None left end is = absurd (subst (λ k. option_is k) (sym is) tt)
  where
    option_is : Option (List ℕ) → Type 0
    option_is None = ⊥
    option_is (Some l) = Unit {0}
none_left (Some xs) left end is = sym (same_some is) ∙ end

pub consumed : (known new : Option (List ℕ)) (more rest : List ℕ) → Consumes known new more → known ≡ Some rest → (left : List ℕ) × (new ≡ Some left) × (rest ≡ more ++ left)
consumed known None more rest took is = absurd (subst (λ k. Consumes k None more) is took)
consumed known (Some left) more rest took is = (left, refl, subst (λ k. Consumes k (Some left) more) is took)

-- .. nor after that
pub quiet_on : {A : Type 0} (old mid new : Option (List A)) → Reports old mid [] → Reports mid new [] → Reports old new []
quiet_on old mid new a b = reports_on old mid new [] [] a b

-- a fault that a count tells of, it tells of from an earlier count on
pub rose_later : (first old new : ℕ) → first ≤ old → Rose old new → Rose first new
rose_later first old new grew rose = (omega (arith, grew, rose.0), omega (arith, grew, rose.1))
