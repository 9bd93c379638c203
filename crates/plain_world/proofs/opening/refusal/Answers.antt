use Rattle.ft_model.specs.Node.{Stage}
use Rattle.plain_world.proofs.opening.refusal.Goals as goal

pub returns-then-is_strange : goal.returns-then-is_strange
returns-then-is_strange g c = λ (stage : Stage). rw (c.in-Packet.is, ← c.if-is_strange.ensures stage) c.as_listen.ensures

pub returns-else-is_strange : goal.returns-else-is_strange
returns-else-is_strange g c = λ (stage : Stage). rw (c.in-Packet.is, ← c.if-is_strange.ensures stage)
