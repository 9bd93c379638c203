-- A service with one state: nothing of it has to be saved.
use Rattle.std.specs.Prelude.{ℕ, List, [], length, ◌==◌, Option, Some, None, if◌then◌else◌}

-- the form of the state is empty
abbrev pub empty_form : {State : Type 0} → State → List ℕ
empty_form state = []

-- and only the empty form is read back
abbrev pub only_state : {State : Type 0} → State → List ℕ → Option State
only_state state bytes = if length bytes == 0 then Some state else None
