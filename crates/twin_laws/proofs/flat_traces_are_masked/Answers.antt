use Rattle.std.specs.Prelude.{[]}
use Rattle.server_trait.specs.Service.{machine}
use Rattle.ft_model.proofs.JointMasked as joint_masked
use Rattle.twin_laws.specs.Flat.{flat}
use Rattle.twin_laws.specs.TwinWorld.{seen}
use Rattle.twin_laws.proofs.Flattening.{flattens}
use Rattle.twin_laws.proofs.flat_traces_are_masked.Goals as goal

pub returns-clause-joint : goal.returns-clause-joint
returns-clause-joint g c = λ kind start trace is. (flattens (machine (g.S.Service.started kind) g.S.Service.after g.S.Service.greeting) start trace is).joint

pub returns-clause-masked : goal.returns-clause-masked
returns-clause-masked g c = λ kind start trace is.
    joint_masked.masked (machine (g.S.Service.started kind) g.S.Service.after g.S.Service.greeting) (g.met.S.Service.greets_shortly (g.S.Service.started kind), g.met.S.Service.is_short) (seen start []) (flat start trace).trace
    (flattens (machine (g.S.Service.started kind) g.S.Service.after g.S.Service.greeting) start trace is).joint
