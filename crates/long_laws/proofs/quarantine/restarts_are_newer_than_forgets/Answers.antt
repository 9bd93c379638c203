use Rattle.server_trait.specs.Service.{machine}
use Rattle.long_laws.proofs.QuarantineTraces.{older}
use Rattle.long_laws.proofs.quarantine.restarts_are_newer_than_forgets.Goals as goal

pub returns : goal.returns
returns g c = λ kind wait start trace number message node joint there up restarts.
    older (machine (g.S.Service.started kind) g.S.Service.after g.S.Service.greeting) (g.met.S.Service.greets_shortly (g.S.Service.started kind), g.met.S.Service.is_short) wait start trace number message node joint there up restarts
