use Rattle.std.proofs.Common.{ap, arith, length, length-drop}
use Rattle.twin_log.proofs.Outgoing.{fit_left}
use Rattle.twin_log.proofs.waiting.Waiting.drop_front.Goals as goal

pub invariant_of-self : goal.invariant_of-self
invariant_of-self c = (
  omega (arith, ap length c.drop_messages.ensures.items, length-drop c.args.count c.self.inside.messages.items, c.self.invariant.0),
  omega (arith, c.drop_messages.ensures.capacity, c.self.invariant.1),
  fit_left c.args.count c.self.inside.messages.items c.drop_messages.new.messages.items c.drop_messages.ensures.items c.self.invariant.2,
)
