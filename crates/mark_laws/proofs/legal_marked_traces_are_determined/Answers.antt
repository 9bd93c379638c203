use Rattle.ft_model.specs.Legal.{machines}
use Rattle.mark_laws.specs.MarkedLegal.{markers}
use Rattle.mark_laws.proofs.OneTrace.{legal_once}
use Rattle.mark_laws.proofs.legal_marked_traces_are_determined.Goals as goal

pub returns : goal.returns
returns g c = λ every schedule trace other a b.
    legal_once (markers (machines g.S.Service.started g.S.Service.after g.S.Service.greeting) g.S.Saved.form g.S.Saved.state_of every) schedule schedule.events trace other a b
