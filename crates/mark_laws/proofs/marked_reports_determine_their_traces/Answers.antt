use Rattle.ft_model.specs.Legal.{machines}
use Rattle.mark_laws.specs.MarkedLegal.{markers}
use Rattle.mark_laws.proofs.OneTrace.{legal_reported}
use Rattle.mark_laws.proofs.marked_reports_determine_their_traces.Goals as goal

pub returns : goal.returns
returns g c = λ every often schedule other trace also fits too here there p q e.
    legal_reported (markers (machines g.S.Service.started g.S.Service.after g.S.Service.greeting) g.S.Saved.form g.S.Saved.state_of) every often schedule other trace also fits too here there p q e
