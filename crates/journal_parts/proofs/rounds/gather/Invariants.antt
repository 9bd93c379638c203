use Rattle.std.proofs.Common.{◌≡◌, ◌≤◌, vec_len, vec_capacity}
use Rattle.ft_io.specs.Reported.{Reports}
use Rattle.journal_parts.specs.RoundParts.{IsGathering}
use Rattle.journal_parts.specs.Waits.{waits_in}
use Rattle.journal_parts.proofs.rounds.gather.Given as goal

-- so many datagrams came, and their answers wait
abbrev pub invariant-loop-count : goal.invariant-loop-count
invariant-loop-count g l = record {
  gathering : IsGathering l.count l.fn.kept l.kept (g.K.Disk.reported l.fn.desk) (g.K.Disk.reported l.desk) l.fn.counts l.counts l.answers.items;
  no_disk_fault : g.K.Disk.fault_count l.desk ≡ g.K.Disk.fault_count l.fn.desk;
  no_bind_fault : (g.K.Disk.beside l.desk).bind_faults ≡ (g.K.Disk.beside l.fn.desk).bind_faults;
  waited : Reports (g.K.Disk.beside l.fn.desk).waits (g.K.Disk.beside l.desk).waits (waits_in l.count);
  few : vec_len l.answers ≤ l.count;
  capacity : vec_capacity l.answers ≡ vec_capacity l.fn.answers;
}
