use Rattle.std.proofs.Common.{◌≡◌, ◌≤◌, ◌-◌, length, take}
use Rattle.disk.specs.FileContent.{written_in, HasPlace}
use Rattle.disk.proofs.file_disk.write_whole.Given as goal

-- the first bytes are written
abbrev pub invariant-loop-done : goal.invariant-loop-done
invariant-loop-done g l = record {
  within : l.done ≤ length l.bytes;
  so_far : HasPlace (g.F.OpenFile.content l.fn.file) l.at → g.F.OpenFile.content l.file ≡ written_in l.at (take l.done l.bytes) (g.F.OpenFile.content l.fn.file);
}

abbrev pub decreases-loop-done : goal.decreases-loop-done
decreases-loop-done g l = length l.bytes - l.done
