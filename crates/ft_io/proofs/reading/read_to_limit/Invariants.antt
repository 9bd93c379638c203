-- All that was taken is kept, at most one byte more than the limit, and no read has failed.
use Rattle.std.proofs.Common.{◌≡◌, ◌+◌, ◌-◌, ◌≤◌, vec_len}
use Rattle.std.specs.Io.KnownBytes.{Consumes}
use Rattle.ft_io.proofs.reading.read_to_limit.Given as goal

abbrev pub invariant-loop-chunk : goal.invariant-loop-chunk
invariant-loop-chunk g l = Consumes (g.I.Source.left l.initial.input) (g.I.Source.left l.input) l.bytes.items
    × (vec_len l.bytes ≤ l.limit + 1) × (g.I.Source.fault_count l.input ≡ g.I.Source.fault_count l.initial.input)

abbrev pub decreases-loop-chunk : goal.decreases-loop-chunk
decreases-loop-chunk g l = l.limit + 1 - vec_len l.bytes
