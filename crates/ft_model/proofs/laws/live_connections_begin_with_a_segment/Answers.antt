use Rattle.ft_model.proofs.laws.live_connections_begin_with_a_segment.Goals as goal
use Rattle.server_trait.specs.Service.{machine}
use Rattle.ft_model.proofs.TurnReports.{begins_reported}

pub returns : goal.returns
returns g c = λ kind boot server before after sent t. begins_reported (machine (g.S.Service.started kind) g.S.Service.after g.S.Service.greeting) server boot before after sent t
