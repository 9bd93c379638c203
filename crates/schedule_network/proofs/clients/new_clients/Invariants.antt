use Rattle.std.proofs.Common.{◌≡◌, map, take}
use Rattle.ft_model.specs.Schedule.{client_of}
use Rattle.schedule_network.proofs.clients.new_clients.Given as goal

abbrev pub invariant-loop-line : goal.invariant-loop-line
invariant-loop-line l = l.clients.items ≡ map (client_of l.server) (take l.line-index l.lines)
