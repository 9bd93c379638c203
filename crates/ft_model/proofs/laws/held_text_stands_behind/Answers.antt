use Rattle.ft_model.proofs.laws.held_text_stands_behind.Goals as goal
use Rattle.server_trait.specs.Service.{machine}
use Rattle.ft_model.proofs.Reassembly.{held_after}

pub returns : goal.returns
returns g c = λ kind start trace node joint up. held_after (machine (g.S.Service.started kind) g.S.Service.after g.S.Service.greeting) start trace node joint up
