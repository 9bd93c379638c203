use Rattle.std.proofs.Common.{◌≡◌, ◌≤◌, ◌+◌, ◌-◌, ◌++◌, ℕ, List, [], length}
use Rattle.std.specs.Io.KnownBytes.{Consumes}
use Rattle.ft_io.specs.Reported.{Reports}
use Rattle.kept_log.proofs.reading.fill_up.Given as goal

abbrev pub invariant-loop-disk : goal.invariant-loop-disk
invariant-loop-disk g l = ((bytes : List ℕ) × Consumes (g.D.Disk.left l.initial.disk) (g.D.Disk.left l.disk) bytes × (l.window ≡ l.initial.window ++ bytes))
    × Reports (g.D.Disk.reported l.initial.disk) (g.D.Disk.reported l.disk) []
    × (g.D.Disk.fault_count l.initial.disk ≤ g.D.Disk.fault_count l.disk)
    × (g.D.Disk.beside l.disk ≡ g.D.Disk.beside l.initial.disk)

abbrev pub decreases-loop-disk : goal.decreases-loop-disk
decreases-loop-disk g l = l.most + 1 - length l.window
