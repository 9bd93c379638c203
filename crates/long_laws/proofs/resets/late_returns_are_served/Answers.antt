use Rattle.long_laws.proofs.resets.late_returns_are_served.Goals as goal
use Rattle.std.proofs.Common.{refl}
use Rattle.server_trait.specs.Service.{silent}
use Rattle.long_laws.proofs.LateReturn.{late_is_long, late_is_discreet}

pub returns : goal.returns
returns g c = record { happens = λ kind. late_is_long (silent (g.S.Service.started kind) g.S.Service.after); discreet = late_is_discreet; served = refl }
