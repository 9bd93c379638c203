use Rattle.server_trait.specs.Service.{machine}
use Rattle.ft_model.proofs.FinsClosed.{new_fin_is}
use Rattle.ft_model.proofs.laws.new_fins_are_closed.Goals as goal

pub returns : goal.returns
returns g c = λ kind server before after. new_fin_is (machine (g.S.Service.started kind) g.S.Service.after g.S.Service.greeting) server before after
