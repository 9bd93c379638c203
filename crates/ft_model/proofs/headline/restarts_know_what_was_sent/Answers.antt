use Rattle.ft_model.proofs.headline.restarts_know_what_was_sent.Goals as goal
use Rattle.server_trait.specs.Service.{machine}
use Rattle.ft_model.proofs.JointMasked.{sent_packets}

pub returns : goal.returns
returns g c = λ kind start trace joint. sent_packets (machine (g.S.Service.started kind) g.S.Service.after g.S.Service.greeting) start.profile (g.met.S.Service.greets_shortly (g.S.Service.started kind), g.met.S.Service.is_short) start trace joint
