use Rattle.std.proofs.Common.{◌≡◌, ◌≤◌, ◌+◌, [], ℕ, vec_capacity}
use Rattle.journal_parts.specs.RoundParts.{place_of}
use Rattle.journal_parts.proofs.Rounding.{IsServing}
use Rattle.journal_parts.proofs.rounds.serve.Given as goal

-- so many turns are done, and nothing waits
abbrev pub invariant-loop-left : goal.invariant-loop-left
invariant-loop-left g l = record {
  done : ℕ;
  count_is : done + l.left ≡ l.turns;
  least_is : l.compaction.least ≡ l.compact;
  serving : IsServing l.compact l.compaction.last done (place_of l.fn.kept) (place_of l.kept) (g.K.Disk.reported l.fn.desk) (g.K.Disk.reported l.desk) l.counts;
  idle : l.kept.round ≡ [];
  room : 256 ≤ vec_capacity l.answers;
  never_falls : g.K.Disk.fault_count l.fn.desk ≤ g.K.Disk.fault_count l.desk;
  no_bind_fault : (g.K.Disk.beside l.desk).bind_faults ≡ (g.K.Disk.beside l.fn.desk).bind_faults;
}

abbrev pub decreases-loop-left : goal.decreases-loop-left
decreases-loop-left g l = l.left
