use Rattle.std.proofs.Common.{ap₂, ◌∷◌, []}
use Rattle.ft_model.specs.Node.{Stage}
use Rattle.ft_model.specs.Node.Place.{Opens}
use Rattle.plain_world.proofs.opening.newcomer.Goals as goal

pub returns-then-may_open : goal.returns-then-may_open
returns-then-may_open g c = λ (stage : Stage). rw (c.in-Packet.is, ← c.if-may_open.ensures stage) (ap₂ (λ n t. Opens n t ∷ []) c.numbers_for.ensures c.timestamping_for.ensures)

pub returns-else-may_open : goal.returns-else-may_open
returns-else-may_open g c = λ (stage : Stage). rw (c.in-Packet.is, ← c.if-may_open.ensures stage)
