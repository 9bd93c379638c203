use Rattle.trace_laws.proofs.premises_hold.Goals as goal
use Rattle.ft_model.specs.Legal.{machines, start_of}
use Rattle.ft_model.specs.Schedule.{kind_of}
use Rattle.ft_model.proofs.Unfenced.{no_fence}
use Rattle.trace_laws.proofs.Sound.{inputs_sound}
use Rattle.trace_laws.proofs.Legal.{inputs_near}

pub returns-clause-near : goal.returns-clause-near
returns-clause-near g c = λ schedule trace node input legal up comes. inputs_near (machines g.S.Service.started g.S.Service.after g.S.Service.greeting) (λ kind. (g.met.S.Service.greets_shortly (g.S.Service.started kind), g.met.S.Service.is_short)) schedule trace node input legal up comes

pub returns-clause-sound : goal.returns-clause-sound
returns-clause-sound g c = λ schedule trace node input legal up comes. (inputs_sound (machines g.S.Service.started g.S.Service.after g.S.Service.greeting (kind_of schedule.service)) (g.met.S.Service.greets_shortly (g.S.Service.started (kind_of schedule.service)), g.met.S.Service.is_short) (start_of schedule) trace node input legal.joint up comes).0

pub returns-clause-unfenced : goal.returns-clause-unfenced
returns-clause-unfenced g c = λ schedule trace node input legal up comes. no_fence (machines g.S.Service.started g.S.Service.after g.S.Service.greeting (kind_of schedule.service)) (start_of schedule) trace node input legal.joint up comes
