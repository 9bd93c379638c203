use Rattle.ft_model.specs.Legal.{machines}
use Rattle.ft_model.proofs.ReportDetermines.{legal_reported}
use Rattle.ft_model.proofs.report.reports_determine_their_traces.Goals as goal

pub returns : goal.returns
returns g c = λ schedule other trace also fits too p q e.
    legal_reported (machines g.S.Service.started g.S.Service.after g.S.Service.greeting) schedule other trace also fits too p q e
