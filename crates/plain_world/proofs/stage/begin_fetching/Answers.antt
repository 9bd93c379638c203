use Rattle.std.proofs.Common.{arith}
use Rattle.ft_model.specs.Node.{Stage}
use Rattle.plain_world.proofs.stage.begin_fetching.Goals as goal

pub proceed-requires : goal.proceed-requires
proceed-requires g c = rw c.new-fetched.ensures (record { few = omega arith; whole = tt })

pub returns-in-Some-clause-turn : goal.returns-in-Some-clause-turn
returns-in-Some-clause-turn g c = λ (stage : Stage). rw (c.in-Some.is, c.new-fetched.ensures) at (c.in_ok-serving.ensures.turn stage)

pub returns-in-None-clause-turn : goal.returns-in-None-clause-turn
returns-in-None-clause-turn g c = λ (stage : Stage). rw (c.in-None.is, c.new-fetched.ensures) at (c.in_ok-serving.ensures.turn stage)
