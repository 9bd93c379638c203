-- A service over a stream: what it does with some input, and with more input after that.
use Rattle.std.specs.Prelude.{ℕ, false, List, [], ◌∷◌, ◌++◌, if◌then◌else◌}
use Rattle.server_trait.specs.Service.{Served}

-- nothing is written, and the service continues from this state
abbrev pub waiting : {State : Type 0} → State → Served State
waiting state = record { next = state; output = []; closed = false }

-- the result of a step, with its output after what was written before
abbrev pub written : {State : Type 0} → List ℕ → Served State → Served State
written before served =
    record { next = served.next; output = before ++ served.output; closed = served.closed }

-- what comes after a step: nothing once the service has closed, and otherwise more output after the step's
abbrev pub and_then : {State : Type 0} → Served State → (State → Served State) → Served State
and_then served more = if served.closed then served else written served.output (more served.next)

-- the bytes one after another, up to the one that closes
abbrev pub each_byte : {State : Type 0} → (State → ℕ → Served State) → State → List ℕ → Served State
each_byte step state [] = waiting state
each_byte step state (byte ∷ bytes) = and_then (step state byte) (λ next. each_byte step next bytes)
