use Rattle.ft_model.proofs.headline.acknowledgements_are_at_most.Goals as goal
use Rattle.server_trait.specs.Service.{machine}
use Rattle.ft_model.proofs.JointMasked.{made_packets}

pub returns : goal.returns
returns g c = λ kind start trace joint. made_packets (machine (g.S.Service.started kind) g.S.Service.after g.S.Service.greeting) (g.met.S.Service.greets_shortly (g.S.Service.started kind), g.met.S.Service.is_short) start trace joint
