use Rattle.long_laws.proofs.done.done_means_over.Goals as goal
use Rattle.server_trait.specs.Service.{machine}
use Rattle.long_laws.proofs.DoneOver.{joint_over}

pub returns : goal.returns
returns g c = λ kind start trace joint. joint_over (machine (g.S.Service.started kind) g.S.Service.after g.S.Service.greeting) (g.met.S.Service.greets_shortly (g.S.Service.started kind), g.met.S.Service.is_short) start trace joint
