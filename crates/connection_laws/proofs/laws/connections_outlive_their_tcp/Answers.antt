use Rattle.server_trait.specs.Service.{machine}
use Rattle.connection_laws.proofs.Outliving.{outlives}
use Rattle.connection_laws.proofs.laws.connections_outlive_their_tcp.Goals as goal

pub returns : goal.returns
returns g c = λ fresh boot u i delta server news before after calls e sent st goes reads. outlives (machine fresh g.S.Service.after g.S.Service.greeting) server boot u i delta news before after calls e sent st goes reads
