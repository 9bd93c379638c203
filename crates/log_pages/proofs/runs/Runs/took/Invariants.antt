use Rattle.std.proofs.Common.{◌≡◌, ◌≤◌, ◌+◌, ◌^◌, ◌++◌, sum, drop, Some}
use Rattle.std.specs.List.{flat_map}
use Rattle.log_pages.specs.Pages.{lengths_in, took}
use Rattle.log_pages.proofs.Took.{plus}
use Rattle.log_pages.proofs.runs.Runs.took.Given as goal

abbrev pub invariant-loop-run : goal.invariant-loop-run
invariant-loop-run l =
    (took l.reads (flat_map lengths_in l.run-items ++ lengths_in l.self-inside.last)
    ≡ plus (Some l.total) (took l.left (flat_map lengths_in (drop l.run-index l.run-items) ++ lengths_in l.self-inside.last)))
    × (l.total + sum (flat_map lengths_in (drop l.run-index l.run-items) ++ lengths_in l.self-inside.last) ≤ 2 ^ 24)
