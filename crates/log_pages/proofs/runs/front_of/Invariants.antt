use Rattle.std.proofs.Common.{◌≡◌, ◌≤◌, length, take, sum}
use Rattle.std.specs.List.{flat_map}
use Rattle.log_pages.specs.Pages.{lengths_in}
use Rattle.log_pages.proofs.runs.front_of.Given as goal

abbrev pub invariant-loop-run : goal.invariant-loop-run
invariant-loop-run l =
    (l.front.runs ≡ l.run-index) × (l.front.reads ≡ length (flat_map lengths_in (take l.run-index l.fn.runs)))
    × (l.front.bytes ≡ sum (flat_map lengths_in (take l.run-index l.fn.runs))) × (l.front.reads ≤ l.reads)
