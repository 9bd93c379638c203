use Rattle.std.proofs.Common.{◌≡◌, ◌≤◌, []}
use Rattle.ft_io.specs.Reported.{Reports}
use Rattle.kept_log.specs.ReadSteps.{IsAt}
use Rattle.kept_log.proofs.reading.read_blocks.Given as goal

abbrev pub invariant-loop-step : goal.invariant-loop-step
invariant-loop-step g l = IsAt l.made l.initial.window (g.D.Disk.left l.initial.disk) (g.D.Disk.left l.disk) l.window l.tip l.store
    × Reports (g.D.Disk.reported l.initial.disk) (g.D.Disk.reported l.disk) []
    × (g.D.Disk.fault_count l.initial.disk ≤ g.D.Disk.fault_count l.disk)
    × (g.D.Disk.beside l.disk ≡ g.D.Disk.beside l.initial.disk)
