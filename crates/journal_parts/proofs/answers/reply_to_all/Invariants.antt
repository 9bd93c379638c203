use Rattle.std.proofs.Common.{◌≡◌, take}
use Rattle.journal_parts.specs.RoundParts.{HasAnswered}
use Rattle.journal_parts.proofs.answers.reply_to_all.Given as goal

-- the first answers are handed over
abbrev pub invariant-loop-answer : goal.invariant-loop-answer
invariant-loop-answer g l = record {
  answered : HasAnswered (take l.answer-index l.answers) (g.K.Disk.reported l.initial.desk) (g.K.Disk.reported l.desk) l.initial.counts l.counts;
  no_disk_fault : g.K.Disk.fault_count l.desk ≡ g.K.Disk.fault_count l.initial.desk;
  no_bind_fault : (g.K.Disk.beside l.desk).bind_faults ≡ (g.K.Disk.beside l.initial.desk).bind_faults;
  no_receive : (g.K.Disk.beside l.desk).waits ≡ (g.K.Disk.beside l.initial.desk).waits;
}
