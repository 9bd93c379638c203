use Rattle.ft_model.proofs.headline.clients_see_an_unfailing_server.Goals as goal
use Rattle.server_trait.specs.Service.{machine}
use Rattle.ft_model.proofs.JointMasked.{sees_front}

pub returns : goal.returns
returns g c = λ kind start trace joint. sees_front (machine (g.S.Service.started kind) g.S.Service.after g.S.Service.greeting) (g.met.S.Service.greets_shortly (g.S.Service.started kind), g.met.S.Service.is_short) start trace joint
