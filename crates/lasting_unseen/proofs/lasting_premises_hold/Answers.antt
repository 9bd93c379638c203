use Rattle.ft_model.specs.Legal.{machines}
use Rattle.ft_model.specs.Schedule.{kind_of}
use Rattle.lasting_unseen.proofs.Legal.{near, rst_is_near, sound, unfenced}
use Rattle.lasting_unseen.proofs.lasting_premises_hold.Goals as goal

pub returns-clause-near : goal.returns-clause-near
returns-clause-near g c = λ waits schedule events trace n input playable fits legal up last.
    near (machines g.S.Service.started g.S.Service.after g.S.Service.greeting) waits schedule events trace
    (g.met.S.Service.greets_shortly (g.S.Service.started (kind_of schedule.service)), g.met.S.Service.is_short) (g.met.S.Service.writes_bytes (kind_of schedule.service)) playable fits legal n up input last

pub returns-clause-let_go : goal.returns-clause-let_go
returns-clause-let_go g c = λ waits schedule events trace n key p playable fits legal up last.
    rst_is_near (machines g.S.Service.started g.S.Service.after g.S.Service.greeting) waits schedule events trace
    (g.met.S.Service.greets_shortly (g.S.Service.started (kind_of schedule.service)), g.met.S.Service.is_short) (g.met.S.Service.writes_bytes (kind_of schedule.service)) playable fits legal n up key p last

pub returns-clause-sound : goal.returns-clause-sound
returns-clause-sound g c = λ waits schedule events trace n input playable fits legal up last.
    (sound (machines g.S.Service.started g.S.Service.after g.S.Service.greeting) waits schedule events trace
    (g.met.S.Service.greets_shortly (g.S.Service.started (kind_of schedule.service)), g.met.S.Service.is_short) (g.met.S.Service.writes_bytes (kind_of schedule.service)) playable fits legal n up input last).0

pub returns-clause-fronts : goal.returns-clause-fronts
returns-clause-fronts g c = λ waits schedule events trace n input playable fits legal up last.
    (sound (machines g.S.Service.started g.S.Service.after g.S.Service.greeting) waits schedule events trace
    (g.met.S.Service.greets_shortly (g.S.Service.started (kind_of schedule.service)), g.met.S.Service.is_short) (g.met.S.Service.writes_bytes (kind_of schedule.service)) playable fits legal n up input last).1

pub returns-clause-unfenced : goal.returns-clause-unfenced
returns-clause-unfenced g c = λ waits schedule events trace n input playable fits legal up last.
    unfenced (machines g.S.Service.started g.S.Service.after g.S.Service.greeting) waits schedule events trace
    (g.met.S.Service.greets_shortly (g.S.Service.started (kind_of schedule.service)), g.met.S.Service.is_short) (g.met.S.Service.writes_bytes (kind_of schedule.service)) playable fits legal n up input last
