use Rattle.ft_model.proofs.headline.no_byte_is_acknowledged_before_it_is_logged.Goals as goal
use Rattle.server_trait.specs.Service.{machine}
use Rattle.ft_model.proofs.Acknowledged.{acknowledged_after}

pub returns : goal.returns
returns g c = λ kind start moment earlier joint. acknowledged_after (machine (g.S.Service.started kind) g.S.Service.after g.S.Service.greeting) start moment earlier joint
