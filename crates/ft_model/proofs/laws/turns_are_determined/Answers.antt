use Rattle.ft_model.proofs.laws.turns_are_determined.Goals as goal
use Rattle.server_trait.specs.Service.{machine}
use Rattle.ft_model.proofs.TurnOnce.{turn_once}

pub returns : goal.returns
returns g c = λ kind before after other input sent also s t. turn_once (machine (g.S.Service.started kind) g.S.Service.after g.S.Service.greeting) before after other input sent also s t
