use Rattle.std.proofs.Common.{◌≡◌, ◌++◌, drop}
use Rattle.std.specs.List.{flat_map}
use Rattle.ft_model.specs.Report.{log_line}
use Rattle.replay_run.proofs.lines.write_entries.Given as goal

-- what is written, and what is still to be written, are the lines of the whole log
abbrev pub invariant-loop-i : goal.invariant-loop-i
invariant-loop-i l = l.lines.items ++ flat_map log_line (drop l.i l.log.entries) ≡ l.initial.lines.items ++ flat_map log_line l.log.entries
