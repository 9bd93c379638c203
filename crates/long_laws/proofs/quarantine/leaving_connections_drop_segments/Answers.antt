use Rattle.server_trait.specs.Service.{machine}
use Rattle.long_laws.proofs.QuarantineLasts.{leaving_dropped}
use Rattle.long_laws.proofs.quarantine.leaving_connections_drop_segments.Goals as goal

pub returns : goal.returns
returns g c = λ kind wait before after node number segment sent up at own leaving may.
    leaving_dropped (machine (g.S.Service.started kind) g.S.Service.after g.S.Service.greeting) wait before after node number segment sent up at own leaving may
