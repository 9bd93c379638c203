use Rattle.server_trait.specs.Service.{machine}
use Rattle.long_laws.proofs.QuarantineEnds.{is_forgotten}
use Rattle.long_laws.proofs.quarantine.quarantines_end.Goals as goal

pub returns : goal.returns
returns g c = λ kind wait isn opened age w n e waited distinct found cisn sisn done.
    is_forgotten (machine (g.S.Service.started kind) g.S.Service.after g.S.Service.greeting) wait isn opened age w n e waited distinct found cisn sisn done
