use Rattle.std.proofs.Common.{◌≡◌, ◌+◌, ◌++◌, drop}
use Rattle.report_laws.specs.Transitions.{clients_in}
use Rattle.trace_check.specs.SentLines.{wire_lines}
use Rattle.trace_check.proofs.sent.write_wires.Given as goal

-- what is written, and what is still to be written, are the lines of all these packets
abbrev pub invariant-loop-i : goal.invariant-loop-i
invariant-loop-i l =
    l.lines.items ++ wire_lines (clients_in l.schedule) (l.first + l.i) (drop l.i l.wires) ≡ l.initial.lines.items ++ wire_lines (clients_in l.schedule) l.first l.wires
