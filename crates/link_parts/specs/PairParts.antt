-- What the parts of a pair do.
use Rattle.std.specs.Prelude.{◌≡◌, ℕ, ◌+◌, ◌-◌, ◌<◌, ◌≤◌, ℤ, Option, List, [], ◌∷◌}
use Rattle.ft_io.specs.declared.spawn_call.SpawnCall.{SpawnCall}
use Rattle.ft_io.specs.declared.spawn_call.SpawnCall.TheVariants.{Started, Ended}
use Rattle.ft_io.specs.Reported.{Reports}
use Rattle.ft_io.specs.Sink.{AppendsFront}
use Rattle.link_parts.specs.declared.pair.Children.{Children}
use Rattle.link_parts.specs.declared.pair.ChildName.{ChildName}
use Rattle.link_parts.specs.declared.pair.PairStep.{PairStep}
use Rattle.link_parts.specs.declared.pair.PairStep.TheVariants.{Start, Wait}
use Rattle.link_parts.specs.declared.pair.PairFault.{PairFault}
use Rattle.link_parts.specs.declared.pair.PairFault.TheVariants.{Child, Write}
use Rattle.link_parts.specs.Pair.{status_line, IsPair}

-- so many children of these steps are among all that were started, and the last one has the last number
pub record IsCounted (children : Children) (started : ℕ) : Type 0 where
  pub among : children.count ≤ started
  pub last : 0 < children.count → children.last ≡ started

-- a wait is for a child that was started
abbrev pub FitsStep : ℕ → PairStep → Type 0
FitsStep count (Start words) = Unit {0}
FitsStep count (Wait child name) = (1 ≤ child) × (child ≤ count)

abbrev pub count_after : ℕ → PairStep → ℕ
count_after count (Start words) = count + 1
count_after count (Wait child name) = count

abbrev pub FitSteps : ℕ → List PairStep → Type 0
FitSteps count [] = Unit {0}
FitSteps count (step ∷ steps) = FitsStep count step × FitSteps (count_after count step) steps

-- a child was started
pub record StartDone (words : List (List ℕ)) (children_old children_new : Children) (started_old started_new : ℕ)
    (old new : Option (List SpawnCall)) : Type 0 where
  pub reports : Reports old new (Started words ∷ [])
  pub next : started_new ≡ started_old + 1
  pub count : children_new.count ≡ children_old.count + 1
  pub last : children_new.last ≡ started_new

-- a child has ended, and its status was written
pub record WaitDone (number : ℕ) (name : ChildName) (old new : Option (List SpawnCall)) (Writes : List ℕ → Type 0) : Type 0 where
  pub status : ℤ
  pub reports : Reports old new (Ended number status ∷ [])
  pub written : Writes (status_line name status)

abbrev pub WaitStops : ℕ → ChildName → (old new : Option (List SpawnCall)) → (out_old out_new : Option (List ℕ)) → PairFault → Type 0
WaitStops number name old new out_old out_new Child = Reports old new [] × (out_new ≡ out_old)
WaitStops number name old new out_old out_new Write = WaitDone number name old new (AppendsFront out_old out_new)

-- a step was done
pub record StepDone (step : PairStep) (children_old children_new : Children) (started_old started_new : ℕ)
    (old new : Option (List SpawnCall)) (Writes : List ℕ → Type 0) : Type 0 where
  pub pair : IsPair (step ∷ []) (started_old - children_old.count) old new Writes
  pub count : children_new.count ≡ count_after children_old.count step
  pub started : started_new ≡ (started_old - children_old.count) + children_new.count
  pub counted : IsCounted children_new started_new

abbrev pub StepStops : PairStep → Children → ℕ → (old new : Option (List SpawnCall)) → (out_old out_new : Option (List ℕ)) → PairFault → Type 0
StepStops step children started old new out_old out_new Child = Reports old new [] × (out_new ≡ out_old)
StepStops step children started old new out_old out_new Write = IsPair (step ∷ []) (started - children.count) old new (AppendsFront out_old out_new)
