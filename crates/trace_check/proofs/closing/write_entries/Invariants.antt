use Rattle.std.proofs.Common.{◌≡◌, ◌++◌, drop}
use Rattle.std.specs.List.{flat_map}
use Rattle.ft_model.specs.Report.{log_line}
use Rattle.trace_check.proofs.closing.write_entries.Given as goal

-- what is written, and what is still to be written, are the lines of the complete log
abbrev pub invariant-loop-i : goal.invariant-loop-i
invariant-loop-i l = l.lines.items ++ flat_map log_line (drop l.i l.entries) ≡ l.initial.lines.items ++ flat_map log_line l.entries
