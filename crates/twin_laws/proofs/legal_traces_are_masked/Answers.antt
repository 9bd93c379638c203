use Rattle.std.proofs.Common.{refl}
use Rattle.ft_model.specs.Legal.{machines, start_of}
use Rattle.ft_model.specs.Schedule.{kind_of}
use Rattle.ft_model.proofs.JointMasked as joint_masked
use Rattle.twin_laws.specs.Flat.{flat}
use Rattle.twin_laws.specs.TwinLegal.{twin_start}
use Rattle.twin_laws.proofs.Allowed.{flat_allowed}
use Rattle.twin_laws.proofs.Flattening.{flattens}
use Rattle.twin_laws.proofs.legal_traces_are_masked.Goals as goal

pub returns-clause-legal : goal.returns-clause-legal
returns-clause-legal g c = λ schedule events trace is.
    let service = machines g.S.Service.started g.S.Service.after g.S.Service.greeting (kind_of schedule.service) in
    record {
      joint = (flattens (machines g.S.Service.started g.S.Service.after g.S.Service.greeting (kind_of schedule.service)) (twin_start schedule) trace is.joint).joint;
      events_are = refl;
      allowed = flat_allowed (machines g.S.Service.started g.S.Service.after g.S.Service.greeting (kind_of schedule.service)) (twin_start schedule) trace is.joint is.allowed;
    }

pub returns-clause-masked : goal.returns-clause-masked
returns-clause-masked g c = λ schedule events trace is.
    joint_masked.masked (machines g.S.Service.started g.S.Service.after g.S.Service.greeting (kind_of schedule.service)) (g.met.S.Service.greets_shortly (g.S.Service.started (kind_of schedule.service)), g.met.S.Service.is_short) (start_of schedule)
    (flat (twin_start schedule) trace).trace
    (flattens (machines g.S.Service.started g.S.Service.after g.S.Service.greeting (kind_of schedule.service)) (twin_start schedule) trace is.joint).joint
