use Rattle.ft_model.proofs.laws.turns_report_to_the_client.Goals as goal
use Rattle.server_trait.specs.Service.{machine}
use Rattle.ft_model.proofs.TurnReports.{reported}

pub returns : goal.returns
returns g c = λ kind boot server news before after sent t. reported (machine (g.S.Service.started kind) g.S.Service.after g.S.Service.greeting) server boot news before after sent t
