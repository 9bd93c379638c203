use Rattle.long_laws.proofs.joint_traces_are_the_long_traces_without_the_steps.Goals as goal
use Rattle.server_trait.specs.Service.{machine}
use Rattle.long_laws.proofs.JointTraces.{is_long, is_joint}

pub returns-clause-long : goal.returns-clause-long
returns-clause-long g c = λ kind start trace joint. is_long (machine (g.S.Service.started kind) g.S.Service.after g.S.Service.greeting) start trace joint

pub returns-clause-joint : goal.returns-clause-joint
returns-clause-joint g c = λ kind start trace joint. is_joint (machine (g.S.Service.started kind) g.S.Service.after g.S.Service.greeting) start trace joint
