use Rattle.server_trait.specs.Service.{machine}
use Rattle.long_laws.proofs.QuarantineWhole.{all_held}
use Rattle.long_laws.proofs.quarantine.what_is_done_is_in_quarantine.Goals as goal

pub returns : goal.returns
returns g c = λ kind wait start trace joint. all_held (machine (g.S.Service.started kind) g.S.Service.after g.S.Service.greeting) (g.met.S.Service.greets_shortly (g.S.Service.started kind), g.met.S.Service.is_short) wait start trace joint
