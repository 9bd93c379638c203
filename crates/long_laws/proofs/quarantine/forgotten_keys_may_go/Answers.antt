use Rattle.server_trait.specs.Service.{machine}
use Rattle.long_laws.proofs.QuarantineTraces.{forgetting}
use Rattle.long_laws.proofs.quarantine.forgotten_keys_may_go.Goals as goal

pub returns : goal.returns
returns g c = λ kind wait start trace number message key joint there taken.
    forgetting (machine (g.S.Service.started kind) g.S.Service.after g.S.Service.greeting) (g.met.S.Service.greets_shortly (g.S.Service.started kind), g.met.S.Service.is_short) wait start trace number message key joint there taken
