-- What is gone from the front of the bytes was appended, and no write has failed.
use Rattle.std.proofs.Common.{◌≡◌, ℕ, List, ◌++◌, length}
use Rattle.std.specs.Io.KnownBytes.{Appends}
use Rattle.ft_io.proofs.writing.write_all.Given as goal

abbrev pub invariant-loop-rest : goal.invariant-loop-rest
invariant-loop-rest g l = ((done : List ℕ) × (l.initial.rest ≡ done ++ l.rest) × Appends (g.O.Sink.taken l.initial.out) (g.O.Sink.taken l.out) done)
    × (g.O.Sink.fault_count l.out ≡ g.O.Sink.fault_count l.initial.out)

abbrev pub decreases-loop-rest : goal.decreases-loop-rest
decreases-loop-rest g l = length l.rest
