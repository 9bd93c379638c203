-- A text that is being written to a sink: the sink has taken a prefix of it, and the rest is held back.
use Rattle.std.specs.Prelude.{◌≡◌, ℕ, List, ◌++◌, Option, Result, Ok, Err}
use Rattle.std.specs.Io.KnownBytes.{Appends}
use Rattle.ft_io.specs.Faults.{Rose}
use Rattle.ft_io.specs.declared.Failed.{Failed}

-- A prefix was written after `old`; `held` is the rest
pub record IsOnItsWay (old now : Option (List ℕ)) (held text : List ℕ) : Type 0 where
  pub front : List ℕ
  pub taken : Appends old now front
  pub whole : front ++ held ≡ text

-- a prefix of a text
abbrev pub IsFrontOf : List ℕ → List ℕ → Type 0
IsFrontOf front text = (behind : List ℕ) × (front ++ behind ≡ text)

-- a complete text of this kind was written
abbrev pub Wrote : (old new : Option (List ℕ)) → (List ℕ → Type 0) → Type 0
Wrote old new Is = (text : List ℕ) × Appends old new text × Is text

-- a prefix of this text was written
abbrev pub WroteFront : (old new : Option (List ℕ)) → List ℕ → Type 0
WroteFront old new text = Wrote old new (λ front. IsFrontOf front text)

-- a text of this kind is being written
abbrev pub Holds : (old now : Option (List ℕ)) → List ℕ → (List ℕ → Type 0) → Type 0
Holds old now held Is = (text : List ℕ) × IsOnItsWay old now held text × Is text

-- a sink's count of failed calls rises if the write failed, and otherwise doesn't change
abbrev pub CountsFailed : (old new : ℕ) → Result (Unit {0}) Failed → Type 0
CountsFailed old new (Ok _) = new ≡ old
CountsFailed old new (Err _) = Rose old new
