use Rattle.std.proofs.Common.{◌≡◌, ◌<◌, ◌++◌, length, drop, slice_index}
use Rattle.std.specs.List.{flat_map}
use Rattle.log_pages.specs.Pages.{lengths_in}
use Rattle.log_pages.proofs.runs.Runs.at.Given as goal

abbrev pub invariant-loop-run : goal.invariant-loop-run
invariant-loop-run l =
    (slice_index (flat_map lengths_in l.run-items ++ lengths_in l.self-inside.last) l.i
    ≡ slice_index (flat_map lengths_in (drop l.run-index l.run-items) ++ lengths_in l.self-inside.last) l.left)
    × (l.left < length (flat_map lengths_in (drop l.run-index l.run-items) ++ lengths_in l.self-inside.last))
