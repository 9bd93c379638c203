-- Calls in memory are numbered from 1, and those that a list names fail.
use Rattle.std.specs.Prelude.{ℕ, List, Contains}
use Rattle.ft_io.specs.Faults.{raised}

-- the calls made so far, and which calls fail
pub record Calls : Type 0 where
  -- the numbers of the calls that fail
  pub fails : List ℕ
  -- how many calls were made. The count stops where that of the faults does, far above any number in the list
  pub made : ℕ

-- no call was made yet
abbrev pub no_call : List ℕ → Calls
no_call numbers = record { fails = numbers; made = 0 }

-- one call later
abbrev pub after_call : Calls → Calls
after_call calls = record calls { made = raised calls.made }

-- the list names the next call
abbrev pub IsNextListed : Calls → Type 0
IsNextListed calls = Contains calls.fails (after_call calls).made
