use Rattle.ft_model.proofs.headline.what_is_acknowledged_is_logged.Goals as goal
use Rattle.server_trait.specs.Service.{machine}
use Rattle.ft_model.proofs.ReportedOver.{reported_after}

pub returns : goal.returns
returns g c = λ kind start trace joint. reported_after (machine (g.S.Service.started kind) g.S.Service.after g.S.Service.greeting) start trace joint
