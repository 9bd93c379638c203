-- A service that has run so far, as the north wrapper stores it.
use Rattle.std.specs.Prelude.{ℕ, ◌+◌, ◌-◌, Bool, min, List, ◌++◌, length, take, drop, if◌then◌else◌}
use Rattle.server_trait.specs.Service.{Served}

pub record RunState (S : Type 0) : Type 0 where
  pub service : S  -- the service's state
  pub pending : List ℕ  -- the output that isn't given to TCP yet
  pub made : ℕ  -- the bytes of all output
  pub closed : Bool  -- whether the service has closed

abbrev pub served_on : {S : Type 0} → RunState S → Served S → RunState S
served_on r served = record { service = served.next; pending = r.pending ++ served.output; made = r.made + length served.output; closed = served.closed }

-- once it has closed, it gets no chunk
abbrev pub run_on : {S : Type 0} → (S → List ℕ → Served S) → RunState S → List ℕ → RunState S
run_on after r chunk = if r.closed then r else served_on r (after r.service chunk)

-- how much of the output is given: as much as there is room for, except the last `kept` bytes
abbrev pub given_count : {S : Type 0} → (room kept : ℕ) → RunState S → ℕ
given_count room kept r = min room (length r.pending - kept)

abbrev pub gives : {S : Type 0} → (room kept : ℕ) → RunState S → List ℕ
gives room kept r = take (given_count room kept r) r.pending

abbrev pub given_to : {S : Type 0} → (room kept : ℕ) → RunState S → RunState S
given_to room kept r = record r { pending = drop (given_count room kept r) r.pending }
