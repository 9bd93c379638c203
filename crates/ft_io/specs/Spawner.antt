-- Which calls on a spawner are recorded, by their results.
use Rattle.std.specs.Prelude.{◌≡◌, ℕ, ℤ, ◌+◌, List, [], ◌∷◌, Ok, Err}
use Rattle.std.specs.declared.result.Result.{Result}
use Rattle.ft_io.specs.declared.Failed.{Failed}
use Rattle.ft_io.specs.declared.spawn_call.SpawnCall.{SpawnCall}
use Rattle.ft_io.specs.declared.spawn_call.SpawnCall.TheVariants.{Started, Ended}

-- a start that succeeded is recorded with its words, and one that failed isn't recorded
abbrev pub start_reported : List (List ℕ) → Result ℕ Failed → List SpawnCall
start_reported words (Ok _) = Started words ∷ []
start_reported words (Err _) = []

-- a wait that succeeded is recorded with the child and its exit status, and one that failed isn't recorded
abbrev pub wait_reported : ℕ → Result ℤ Failed → List SpawnCall
wait_reported child (Ok status) = Ended child status ∷ []
wait_reported child (Err _) = []

-- children are numbered from 1 in the order of their starts: a start that succeeds returns the next number
abbrev pub NumbersNext : ℕ → ℕ → Result ℕ Failed → Type 0
NumbersNext old new (Ok child) = (child ≡ old + 1) × (new ≡ old + 1)
NumbersNext old new (Err _) = new ≡ old
