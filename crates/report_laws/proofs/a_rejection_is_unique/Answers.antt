use Rattle.report_laws.proofs.a_rejection_is_unique.Goals as goal
use Rattle.ft_model.specs.Legal.{machines}
use Rattle.report_laws.proofs.Rejection.{fails_once}
use Rattle.report_laws.specs.Lines.{lines_in}
use Rattle.report_laws.specs.Transitions.Position.{AtStart}

pub returns : goal.returns
returns g c = λ text line other law also p q. fails_once (machines g.S.Service.started g.S.Service.after g.S.Service.greeting) AtStart (lines_in text) line other law also p q
