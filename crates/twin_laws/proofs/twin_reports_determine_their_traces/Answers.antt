use Rattle.ft_model.specs.Legal.{machines}
use Rattle.twin_laws.proofs.OneTrace.{legal_reported}
use Rattle.twin_laws.proofs.twin_reports_determine_their_traces.Goals as goal

pub returns : goal.returns
returns g c = λ schedule other trace also fits too p q e.
    legal_reported (machines g.S.Service.started g.S.Service.after g.S.Service.greeting) schedule other trace also fits too p q e
