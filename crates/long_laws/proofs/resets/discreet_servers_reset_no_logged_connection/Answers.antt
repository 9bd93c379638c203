use Rattle.long_laws.proofs.resets.discreet_servers_reset_no_logged_connection.Goals as goal
use Rattle.server_trait.specs.Service.{machine}
use Rattle.long_laws.proofs.Discreet.{all_spared}

pub returns : goal.returns
returns g c = λ kind start trace joint discreet. all_spared (machine (g.S.Service.started kind) g.S.Service.after g.S.Service.greeting) (g.met.S.Service.greets_shortly (g.S.Service.started kind), g.met.S.Service.is_short) start trace joint discreet
