use Rattle.std.proofs.Common.{◌≡◌, ◌+◌, ◌++◌, drop}
use Rattle.ft_model.specs.Report.{schedule_lines}
use Rattle.schedule_text.proofs.header_text.put_clients.Given as goal

-- what is written, and what is still to be written, are the lines of all clients
abbrev pub invariant-loop-i : goal.invariant-loop-i
invariant-loop-i l = (l.line.words ++ schedule_lines (l.i + 1) (drop l.i l.clients) ≡ l.initial.line.words ++ schedule_lines 1 l.clients) × (l.line.before ≡ l.initial.line.before)
