-- What a service has made of its reads: the run, and the end of its output after each number of reads.
use Rattle.std.specs.Prelude.{ℕ, List, [], ◌∷◌, ◌++◌, length}
use Rattle.server_trait.specs.Service.{Machine, Run, begun, fed, cut}
use Rattle.plain_connection.specs.declared.made_output.End.{End}

pub record Made (State : Type 0) : Type 0 where
  pub run : Run State
  pub ends : List End

abbrev pub end_of : {State : Type 0} → Run State → End
end_of run = record { output = length run.output; closed = run.closed }

abbrev pub nothing_made : {State : Type 0} → Machine State → Made State
nothing_made service = record { run = begun service; ends = end_of (begun service) ∷ [] }

-- after one more read, of this chunk
abbrev pub after_read : {State : Type 0} → Machine State → Made State → List ℕ → Made State
after_read service m chunk = record { run = fed service m.run chunk; ends = m.ends ++ end_of (fed service m.run chunk) ∷ [] }

abbrev pub after_reads : {State : Type 0} → Machine State → Made State → List (List ℕ) → Made State
after_reads service m [] = m
after_reads service m (chunk ∷ chunks) = after_reads service (after_read service m chunk) chunks

-- what a service has made of these bytes, read in chunks of these lengths
unfoldable pub made_of : {State : Type 0} → Machine State → List ℕ → List ℕ → Made State
made_of service bytes lengths = after_reads service (nothing_made service) (cut bytes lengths)
