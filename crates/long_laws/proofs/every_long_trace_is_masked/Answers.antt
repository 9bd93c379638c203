use Rattle.long_laws.proofs.every_long_trace_is_masked.Goals as goal
use Rattle.server_trait.specs.Service.{machine}
use Rattle.long_laws.proofs.Long.{all_masked}

pub returns : goal.returns
returns g c = λ kind start trace joint. all_masked (machine (g.S.Service.started kind) g.S.Service.after g.S.Service.greeting) (g.met.S.Service.greets_shortly (g.S.Service.started kind), g.met.S.Service.is_short) start trace joint
