use Rattle.server_trait.specs.Service.{machine}
use Rattle.mark_laws.proofs.Answered.{ends_at_points}
use Rattle.mark_laws.proofs.restarts_end_at_the_points.Goals as goal

pub returns : goal.returns
returns g c = λ kind profile entries fetched a none i e at live.
    ends_at_points (machine (g.S.Service.started kind) g.S.Service.after g.S.Service.greeting) profile entries fetched a none i e at live
