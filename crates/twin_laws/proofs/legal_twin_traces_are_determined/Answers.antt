use Rattle.ft_model.specs.Legal.{machines}
use Rattle.twin_laws.proofs.OneTrace.{legal_once}
use Rattle.twin_laws.proofs.legal_twin_traces_are_determined.Goals as goal

pub returns : goal.returns
returns g c = λ schedule trace other a b. legal_once (machines g.S.Service.started g.S.Service.after g.S.Service.greeting) schedule schedule.events trace other a b
