use Rattle.std.proofs.Common.{◌-◌, arith}
use Rattle.std.proofs.lemmas.Int.{ints}
use Rattle.tcp_rules.specs.Coming.{holds_fin}
use Rattle.tcp_endpoint.specs.ReceiveHalf.{taken}
use Rattle.tcp_endpoint.proofs.receiver.Receiver.holds_fin.Goals.{then-place-receive_edge-via-then-place-receive_edge, then-place-receive_edge-via-else-place-receive_edge+then-place-taken}
use Rattle.tcp_endpoint.proofs.receiver.Receiver.holds_fin.Goals as goal

pub returns-then-place-receive_edge : goal.returns-then-place-receive_edge
unfolding holds_fin
returns-then-place-receive_edge c = grind (arith, ints)

pub returns-then-is_none : goal.returns-then-is_none
unfolding holds_fin
returns-then-is_none c = grind (arith, ints, c.held_to.ensures.held (c.args.place - taken c.args.self.now))

pub returns-else-is_none : goal.returns-else-is_none
unfolding holds_fin
returns-else-is_none c = grind (arith, ints, c.held_to.ensures.held (c.args.place - taken c.args.self.now))
