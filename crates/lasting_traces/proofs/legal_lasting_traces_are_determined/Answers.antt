use Rattle.ft_model.specs.Legal.{machines}
use Rattle.lasting_traces.proofs.OneTrace.{legal_once}
use Rattle.lasting_traces.proofs.legal_lasting_traces_are_determined.Goals as goal

pub returns : goal.returns
returns g c = λ waits schedule trace other a b.
    legal_once (machines g.S.Service.started g.S.Service.after g.S.Service.greeting) waits schedule schedule.events trace other a b
