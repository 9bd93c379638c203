use Rattle.ft_model.proofs.headline.servers_have_turns.Goals as goal
use Rattle.server_trait.specs.Service.{machine}
use Rattle.ft_model.proofs.NeverStuck.{never_stuck}

pub returns : goal.returns
returns g c = λ kind start trace node input joint up. never_stuck (machine (g.S.Service.started kind) g.S.Service.after g.S.Service.greeting) (g.met.S.Service.greets_shortly (g.S.Service.started kind), g.met.S.Service.is_short) start trace node input joint up
