use Rattle.ft_model.specs.Legal.{machines}
use Rattle.ft_model.specs.Schedule.{kind_of}
use Rattle.lasting_unseen.proofs.Legal.{each_written, all_written}
use Rattle.lasting_unseen.proofs.lasting_parcels_are_written.Goals as goal

pub returns-clause-sent : goal.returns-clause-sent
returns-clause-sent g c = λ waits schedule events trace playable fits legal.
    each_written (machines g.S.Service.started g.S.Service.after g.S.Service.greeting) waits schedule events trace
    (g.met.S.Service.greets_shortly (g.S.Service.started (kind_of schedule.service)), g.met.S.Service.is_short) (g.met.S.Service.writes_bytes (kind_of schedule.service)) playable fits legal

pub returns-clause-kept : goal.returns-clause-kept
returns-clause-kept g c = λ waits schedule events trace playable fits legal.
    all_written (machines g.S.Service.started g.S.Service.after g.S.Service.greeting) waits schedule events trace
    (g.met.S.Service.greets_shortly (g.S.Service.started (kind_of schedule.service)), g.met.S.Service.is_short) (g.met.S.Service.writes_bytes (kind_of schedule.service)) playable fits legal
