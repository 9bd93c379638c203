use Rattle.trace_laws.proofs.mortal_traces_refine_joint_traces.Goals as goal
use Rattle.server_trait.specs.Service.{machine}
use Rattle.trace_laws.proofs.Refined.{all_shown}

pub returns : goal.returns
returns g c = λ kind start trace joint. all_shown (machine (g.S.Service.started kind) g.S.Service.after g.S.Service.greeting) start trace joint
