use Rattle.server_trait.specs.Service.{machine}
use Rattle.connection_laws.proofs.Joining.{reset_receives}
use Rattle.connection_laws.proofs.laws.reset_connections_receive_what_is_logged.Goals as goal

pub returns : goal.returns
returns g c = λ fresh boot given news before after n sent north turn. reset_receives (machine fresh g.S.Service.after g.S.Service.greeting) boot news before after given n sent north turn
