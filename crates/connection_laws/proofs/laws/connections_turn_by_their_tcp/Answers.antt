use Rattle.server_trait.specs.Service.{machine}
use Rattle.connection_laws.proofs.Whole.{turns_inside}
use Rattle.connection_laws.proofs.laws.connections_turn_by_their_tcp.Goals as goal

pub returns : goal.returns
returns g c = λ fresh boot u i delta news before after calls e sent st t uses. turns_inside (machine fresh g.S.Service.after g.S.Service.greeting) boot u i delta news before after calls e sent st t uses
