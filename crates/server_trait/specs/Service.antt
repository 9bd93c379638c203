-- The server that never fails: a deterministic service fed with its input in chunks (FT-TCP, INFOCOM 2001: the server as a state
-- machine whose only freedom is how long each read is).
use Rattle.std.specs.Prelude.{ℕ, Bool, false, ◌≢◌, ◌<◌, ◌≤◌, List, [], ◌∷◌, ◌++◌, take, drop, length, sum, if◌then◌else◌}
use Rattle.std.specs.List.{AllByRecursion}
use Rattle.std.proofs.Common.{arith}
use Rattle.server_trait.specs.declared.Next.{Next}
use Rattle.server_trait.specs.declared.Next.TheVariants.{Go, Close}

-- what a service does with one chunk: the state after it, the output that it appends, and whether it closes
pub record Served (State : Type 0) : Type 0 where
  pub next : State
  pub output : List ℕ
  pub closed : Bool

-- a service as the definitions see it: the state in which it starts, its greeting, that is, the output that is there before the first read, and what it does
-- with a chunk
pub record Machine (State : Type 0) : Type 0 where
  pub fresh : State
  pub greeting : List ℕ
  pub after : State → List ℕ → Served State

-- the state of a run of a service: the service's state, all its output so far, and whether it has closed
pub record Run (State : Type 0) : Type 0 where
  pub state : State
  pub output : List ℕ
  pub closed : Bool

abbrev pub machine : {State : Type 0} → State → (State → List ℕ → Served State) → (State → List ℕ) → Machine State
machine fresh after greeting = record { fresh = fresh; greeting = greeting fresh; after = after }

-- a service that waits for its client: it has no greeting
abbrev pub no_greeting : {State : Type 0} → State → List ℕ
no_greeting state = []

pub short_greeting : {State : Type 0} (state : State) → length (no_greeting state) ≤ 65535
short_greeting state = omega arith

abbrev pub silent : {State : Type 0} → State → (State → List ℕ → Served State) → Machine State
silent fresh after = machine fresh after no_greeting

-- a run starts fresh, with the greeting, not closed
abbrev pub begun : {State : Type 0} → Machine State → Run State
begun service = record { state = service.fresh; output = service.greeting; closed = false }

-- a run continues by what the service does with one more chunk
abbrev pub with_served : {State : Type 0} → Run State → Served State → Run State
with_served run served = record { state = served.next; output = run.output ++ served.output; closed = served.closed }

-- once the run has closed, a chunk changes nothing
abbrev pub fed : {State : Type 0} → Machine State → Run State → List ℕ → Run State
fed service run chunk = if run.closed then run else with_served run (service.after run.state chunk)

abbrev pub fold_from : {State : Type 0} → Machine State → Run State → List (List ℕ) → Run State
fold_from service run [] = run
fold_from service run (chunk ∷ chunks) = fold_from service (fed service run chunk) chunks

-- the run of a service over its chunks
abbrev pub fold : {State : Type 0} → Machine State → List (List ℕ) → Run State
fold service chunks = fold_from service (begun service) chunks

-- all the numbers are bytes
abbrev pub AreBytes : List ℕ → Type 0
AreBytes numbers = AllByRecursion (λ n. n < 256) numbers

-- from its first state on, a service that is given bytes writes bytes
abbrev pub WritesBytes : {State : Type 0} → Machine State → Type 0
WritesBytes service = (chunks : List (List ℕ)) → AllByRecursion AreBytes chunks → AreBytes (fold service chunks).output

-- a prefix of the bytes, in pieces of these lengths
abbrev pub cut : List ℕ → List ℕ → List (List ℕ)
cut bytes [] = []
cut bytes (n ∷ lengths) = take n bytes ∷ cut (drop n bytes) lengths

-- a length 0, which means the end of input, comes only last
abbrev pub EndsAtZero : List ℕ → Type 0
EndsAtZero [] = Unit {0}
EndsAtZero (n ∷ []) = Unit {0}
EndsAtZero (n ∷ m ∷ lengths) = (n ≢ 0) × EndsAtZero (m ∷ lengths)

-- the premise of `cut`: the bytes suffice, and a length 0 comes only last
pub record CanCut (bytes lengths : List ℕ) : Type 0 where
  pub enough : sum lengths ≤ length bytes
  pub ends : EndsAtZero lengths

-- the uncrashed server's run on these bytes, read in pieces of these lengths
unfoldable pub reference : {State : Type 0} → Machine State → List ℕ → List ℕ → Run State
reference service bytes lengths = fold service (cut bytes lengths)

-- what `take` returns
abbrev pub next_of : Bool → Next
next_of closed = if closed then Close else Go
