use Rattle.ft_model.proofs.headline.restarts_are_exact.Goals as goal
use Rattle.server_trait.specs.Service.{machine}
use Rattle.ft_model.proofs.Exact.{exact_after}

pub returns : goal.returns
returns g c = λ kind start moment earlier joint. exact_after (machine (g.S.Service.started kind) g.S.Service.after g.S.Service.greeting) start moment earlier joint
