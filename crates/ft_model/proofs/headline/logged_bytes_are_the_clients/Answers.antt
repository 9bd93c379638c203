use Rattle.ft_model.proofs.headline.logged_bytes_are_the_clients.Goals as goal
use Rattle.server_trait.specs.Service.{machine}
use Rattle.ft_model.proofs.Acknowledged.{logged_front}

pub returns : goal.returns
returns g c = λ kind start trace joint. logged_front (machine (g.S.Service.started kind) g.S.Service.after g.S.Service.greeting) start trace joint
