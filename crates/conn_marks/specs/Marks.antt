-- What is stored of a connection's marks, and which mark a connection gives.
use Rattle.limits.specs.Limits.{longest_stream, most_units}
use Rattle.std.specs.Prelude.{ℕ, ◌≤◌, ◌+◌, ◌^◌, Bool, false, ◌&&◌, nat_lt, nat_le, is_none, Option, Some, None, List, length, if◌then◌else◌}
use Rattle.seq_arith.specs.Mark.{Mark}
use Rattle.mark_laws.specs.Marking.{Marking}
use Rattle.wrapped_conn.specs.declared.quiet.Quiet.{Quiet}
use Rattle.wrapped_conn.specs.ConnState.{ConnState}
use Rattle.wrapped_conn.specs.Quiet.{quiet_in}

-- the mark with these numbers and this form of a state
abbrev pub mark_with : Quiet → List ℕ → Mark
mark_with quiet state = record { reads = quiet.reads; length = quiet.length; made = quiet.made; state = state }

-- a mark that a message can hold
pub record IsWritableMark (m : Mark) : Type 0 where
  pub some : 1 ≤ m.reads
  pub reads : m.reads ≤ most_units
  pub bytes : m.length ≤ longest_stream
  pub made : m.made ≤ longest_stream
  pub state : length m.state ≤ 1100

-- the numbers of the mark that is due: none is outstanding, at least `every` reads were made after the last one, and the connection is quiet
abbrev pub due_in : {S : Type 0} → (every : ℕ) → Marking → ConnState S → Option Quiet
due_in every m c = if nat_lt 0 every && is_none m.outstanding && nat_le (m.last + every) c.north.count then quiet_in c else None

-- whether its mark is made: one is due, and the form of its state isn't longer than a message can hold
abbrev pub is_made : Option Quiet → List ℕ → Bool
is_made None state = false
is_made (Some quiet) state = nat_le (length state) 1100

abbrev pub with_due : Option Quiet → List ℕ → Marking → Marking
with_due None state m = m
with_due (Some quiet) state m = if nat_le (length state) 1100 then record { last = quiet.reads; outstanding = Some (mark_with quiet state) } else m
