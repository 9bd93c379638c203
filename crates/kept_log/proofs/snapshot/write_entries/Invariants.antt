use Rattle.std.proofs.Common.{◌≡◌, ◌≤◌, [], take}
use Rattle.ft_io.specs.Reported.{Reports}
use Rattle.kept_log.proofs.Said.{AreWritten}
use Rattle.kept_log.proofs.snapshot.write_entries.Given as goal

-- so many entries are written
abbrev pub invariant-loop-i : goal.invariant-loop-i
invariant-loop-i g l = AreWritten l.store.boot (take l.i l.store.entries) (g.K.Desk.aside l.initial.desk) l.initial.draft (g.K.Desk.aside l.desk) l.draft
    × Reports (g.K.Disk.reported l.initial.desk) (g.K.Disk.reported l.desk) []
    × (g.K.Disk.fault_count l.initial.desk ≤ g.K.Disk.fault_count l.desk)
    × (g.K.Disk.beside l.desk ≡ g.K.Disk.beside l.initial.desk)
