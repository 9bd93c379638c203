use Rattle.server_trait.specs.Service.{machine}
use Rattle.ft_model.proofs.laws.turns_exist.Goals as goal
use Rattle.ft_model.proofs.TurnExists.{turn_exists}

pub returns : goal.returns
returns g c = λ kind before input live counts. turn_exists (machine (g.S.Service.started kind) g.S.Service.after g.S.Service.greeting) before input live counts
