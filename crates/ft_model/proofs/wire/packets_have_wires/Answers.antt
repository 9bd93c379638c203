use Rattle.server_trait.specs.Service.{machine}
use Rattle.ft_model.proofs.FormedWorld.{wires_after, wires_sent}
use Rattle.ft_model.proofs.wire.packets_have_wires.Goals as goal

pub returns-clause-sent : goal.returns-clause-sent
returns-clause-sent g c = λ kind start trace joint.
    wires_sent (machine (g.S.Service.started kind) g.S.Service.after g.S.Service.greeting) (g.met.S.Service.greets_shortly (g.S.Service.started kind), g.met.S.Service.is_short) (g.met.S.Service.writes_bytes kind) start trace joint

pub returns-clause-all : goal.returns-clause-all
returns-clause-all g c = λ kind start trace joint.
    wires_after (machine (g.S.Service.started kind) g.S.Service.after g.S.Service.greeting) (g.met.S.Service.greets_shortly (g.S.Service.started kind), g.met.S.Service.is_short) (g.met.S.Service.writes_bytes kind) start trace joint
