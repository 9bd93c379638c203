use Rattle.server_trait.specs.Service.{machine}
use Rattle.twin_laws.proofs.WorkedPair.{joint, flat_is}
use Rattle.twin_laws.proofs.worked_pair_is_joint.Goals as goal

pub returns-clause-joint : goal.returns-clause-joint
returns-clause-joint g c = λ kind. joint (machine (g.S.Service.started kind) g.S.Service.after g.S.Service.greeting)

pub returns-clause-flat : goal.returns-clause-flat
returns-clause-flat g c = flat_is
