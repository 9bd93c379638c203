use Rattle.ft_model.proofs.headline.every_joint_trace_is_masked.Goals as goal
use Rattle.server_trait.specs.Service.{machine}
use Rattle.ft_model.proofs.JointMasked.{masked}

pub returns : goal.returns
returns g c = λ kind start trace joint. masked (machine (g.S.Service.started kind) g.S.Service.after g.S.Service.greeting) (g.met.S.Service.greets_shortly (g.S.Service.started kind), g.met.S.Service.is_short) start trace joint
