use Rattle.ft_model.proofs.headline.no_logged_connection_is_reset.Goals as goal
use Rattle.server_trait.specs.Service.{machine}
use Rattle.ft_model.proofs.Resets.{spared_after}

pub returns : goal.returns
returns g c = λ kind start trace joint. spared_after (machine (g.S.Service.started kind) g.S.Service.after g.S.Service.greeting) (g.met.S.Service.greets_shortly (g.S.Service.started kind), g.met.S.Service.is_short) start trace joint
