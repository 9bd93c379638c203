use Rattle.server_trait.specs.Service.{machine}
use Rattle.long_laws.proofs.QuarantineTraces.{all_masked}
use Rattle.long_laws.proofs.quarantine.quarantined_traces_are_masked.Goals as goal

pub returns : goal.returns
returns g c = λ kind wait start trace joint. all_masked (machine (g.S.Service.started kind) g.S.Service.after g.S.Service.greeting) (g.met.S.Service.greets_shortly (g.S.Service.started kind), g.met.S.Service.is_short) wait start trace joint
