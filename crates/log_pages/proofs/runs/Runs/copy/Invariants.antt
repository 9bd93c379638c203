use Rattle.std.proofs.Common.{◌≡◌, ◌-◌, ◌++◌, length, take, drop}
use Rattle.std.specs.List.{flat_map}
use Rattle.log_pages.specs.Pages.{lengths_in}
use Rattle.log_pages.proofs.runs.Runs.copy.Given as goal

abbrev pub invariant-loop-run : goal.invariant-loop-run
invariant-loop-run l =
    (l.lens ≡ take 512 (l.initial.lens ++ drop l.first (flat_map lengths_in (take l.run-index l.run-items))))
    × (l.skip ≡ l.first - length (flat_map lengths_in (take l.run-index l.run-items)))
