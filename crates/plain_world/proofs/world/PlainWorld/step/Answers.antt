use Rattle.std.proofs.Common.{ap, ◌+◌}
use Rattle.server_trait.specs.Service.{machine}
use Rattle.ft_model.specs.Legal.{machines}
use Rattle.ft_model.proofs.FormedWorld.{wires_here, wires_sent}
use Rattle.ft_model.proofs.Unfenced.{no_fence}
use Rattle.plain_world.specs.WorldState.{WorldState}
use Rattle.plain_world.proofs.Trace.{steps}
use Rattle.plain_world.proofs.world.PlainWorld.step.Goals as goal

abbrev one_more : {State : Type 0} → WorldState State → WorldState State
one_more w = record w { turns = w.turns + 1 }

pub returns : goal.returns
returns g c = λ schedule trace at sizes fits free.
    steps (machines g.S.Service.started g.S.Service.after g.S.Service.greeting)
    (record {
      sent = λ kind start before joint. wires_sent (machine (g.S.Service.started kind) g.S.Service.after g.S.Service.greeting) (g.met.S.Service.greets_shortly (g.S.Service.started kind), g.met.S.Service.is_short) (g.met.S.Service.writes_bytes kind) start before joint;
      all = λ kind start before joint. wires_here (machine (g.S.Service.started kind) g.S.Service.after g.S.Service.greeting) (g.met.S.Service.greets_shortly (g.S.Service.started kind), g.met.S.Service.is_short) (g.met.S.Service.writes_bytes kind) start before joint;
      unfenced = λ kind start before node input joint up comes. no_fence (machine (g.S.Service.started kind) g.S.Service.after g.S.Service.greeting) start before node input joint up comes;
    })
    c.args.self.now c.act.new.self _ c.args.event.now c.in_ok-act.ensures (ap (one_more {State = g.row.S.Denot}) c.self.view_is) schedule trace at fits free
