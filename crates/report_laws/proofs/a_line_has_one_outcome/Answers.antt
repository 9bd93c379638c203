use Rattle.report_laws.proofs.a_line_has_one_outcome.Goals as goal
use Rattle.ft_model.specs.Legal.{machines}
use Rattle.report_laws.proofs.OneOutcome.{step_once}

pub returns : goal.returns
returns g c = λ position text one other p q. step_once (machines g.S.Service.started g.S.Service.after g.S.Service.greeting) position text one other p q
