use Rattle.std.proofs.Common.{◌≡◌, ◌++◌, length}
use Rattle.tcp_buffers.specs.Runs.{covered_more}
use Rattle.tcp_buffers.proofs.early_runs.Covering.pass_all.Given as goal

abbrev pub invariant-loop-run : goal.invariant-loop-run
invariant-loop-run l =
    l.self.kept.items ++ covered_more l.self.is_kept l.self.run l.rest ≡ l.fn.self.kept.items ++ covered_more l.fn.self.is_kept l.fn.self.run l.fn.runs

abbrev pub decreases-loop-run : goal.decreases-loop-run
decreases-loop-run l = length l.rest
