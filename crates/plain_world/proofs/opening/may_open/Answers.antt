use Rattle.std.proofs.Common.{ap}
use Rattle.std.specs.Prelude.{nat_lt}
use Rattle.ft_model.specs.Node.{Stage}
use Rattle.plain_world.proofs.opening.may_open.Goals as goal

pub returns-then-not-is_strange : goal.returns-then-not-is_strange
returns-then-not-is_strange g c = λ (stage : Stage). rw (← c.if-not-is_strange.ensures stage)

pub returns : goal.returns
returns g c = λ (stage : Stage). rw (← c.if-not-is_strange.ensures stage, ← c.if-not-is_syn.ensures) (ap (λ n. nat_lt n 64) c.pending_count.ensures)
