use Rattle.ft_model.proofs.laws.schedules_have_an_outcome.Goals as goal
use Rattle.ft_model.specs.Legal.{machines}
use Rattle.ft_model.proofs.SomeOutcome.{has_outcome}

pub returns : goal.returns
returns g c = λ schedule start events. has_outcome (machines g.S.Service.started g.S.Service.after g.S.Service.greeting) (λ kind. (g.met.S.Service.greets_shortly (g.S.Service.started kind), g.met.S.Service.is_short)) g.met.S.Service.writes_bytes schedule start events
