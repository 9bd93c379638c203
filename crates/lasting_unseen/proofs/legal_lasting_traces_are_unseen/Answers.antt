use Rattle.ft_model.specs.Legal.{machines}
use Rattle.ft_model.specs.Schedule.{kind_of}
use Rattle.lasting_unseen.proofs.Legal.{unseen}
use Rattle.lasting_unseen.proofs.legal_lasting_traces_are_unseen.Goals as goal

pub returns : goal.returns
returns g c = λ waits schedule events trace playable fits legal.
    unseen (machines g.S.Service.started g.S.Service.after g.S.Service.greeting) waits schedule events trace
    (g.met.S.Service.greets_shortly (g.S.Service.started (kind_of schedule.service)), g.met.S.Service.is_short) (g.met.S.Service.writes_bytes (kind_of schedule.service)) playable fits legal
