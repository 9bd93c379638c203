use Rattle.trace_laws.proofs.the_log_outlives_its_logger.Goals as goal
use Rattle.server_trait.specs.Service.{machine}
use Rattle.trace_laws.proofs.Outlives.{outlives}

pub returns : goal.returns
returns g c = λ kind start later earlier joint. outlives (machine (g.S.Service.started kind) g.S.Service.after g.S.Service.greeting) start later earlier joint
