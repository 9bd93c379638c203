use Rattle.std.proofs.Common.{◌≡◌, ◌≤◌, []}
use Rattle.ft_io.specs.Reported.{Reports}
use Rattle.log_snapshot.specs.Steps.{steps_left}
use Rattle.kept_log.proofs.Said.{IsPartly}
use Rattle.kept_log.proofs.snapshot.write_entry.Given as goal

-- the entry is written up to the next step
abbrev pub invariant-loop-next : goal.invariant-loop-next
invariant-loop-next g l = IsPartly l.boot l.entry (g.K.Desk.aside l.initial.desk) l.initial.draft (g.K.Desk.aside l.desk) l.draft l.next
    × Reports (g.K.Disk.reported l.initial.desk) (g.K.Disk.reported l.desk) []
    × (g.K.Disk.fault_count l.initial.desk ≤ g.K.Disk.fault_count l.desk)
    × (g.K.Disk.beside l.desk ≡ g.K.Disk.beside l.initial.desk)

abbrev pub decreases-loop-next : goal.decreases-loop-next
decreases-loop-next g l = steps_left l.entry l.next
