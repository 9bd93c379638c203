use Rattle.std.proofs.Common.{◌≡◌, ◌+◌, ◌++◌, drop}
use Rattle.ft_model.specs.Report.{client_lines}
use Rattle.replay_run.proofs.lines.write_clients.Given as goal

-- what is written, and what is still to be written, are the lines of all clients
abbrev pub invariant-loop-i : goal.invariant-loop-i
invariant-loop-i l = l.lines.items ++ client_lines (l.i + 1) (drop l.i l.world.clients.items) ≡ l.initial.lines.items ++ client_lines 1 l.world.clients.items
