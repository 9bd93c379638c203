use Rattle.long_laws.proofs.resets.late_fulls_reset.Goals as goal
use Rattle.server_trait.specs.Service.{machine}
use Rattle.long_laws.proofs.LateFull.{late_full}

pub returns : goal.returns
returns g c = λ kind w node opened numbers timestamping number up is at. late_full (machine (g.S.Service.started kind) g.S.Service.after g.S.Service.greeting) node opened numbers timestamping is w number up at
