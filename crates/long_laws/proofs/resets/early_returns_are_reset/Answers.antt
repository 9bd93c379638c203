use Rattle.long_laws.proofs.resets.early_returns_are_reset.Goals as goal
use Rattle.std.proofs.Common.{refl}
use Rattle.server_trait.specs.Service.{silent}
use Rattle.long_laws.proofs.EarlyReturn.{is_long, logged}

pub returns : goal.returns
returns g c = record { happens = λ kind. is_long (silent (g.S.Service.started kind) g.S.Service.after); logged = logged; reset = refl }
