use Rattle.ft_model.proofs.headline.the_log_only_grows.Goals as goal
use Rattle.server_trait.specs.Service.{machine}
use Rattle.ft_model.proofs.LogOver.{log_over}

pub returns : goal.returns
returns g c = λ kind start later earlier joint. log_over (machine (g.S.Service.started kind) g.S.Service.after g.S.Service.greeting) start later earlier joint
