use Rattle.server_trait.specs.Service.{machine}
use Rattle.connection_laws.proofs.Together.{turns_together}
use Rattle.connection_laws.proofs.laws.connections_turn_by_their_parts.Goals as goal

pub returns : goal.returns
returns g c = λ fresh boot u i delta given news before old new reads e t st fits later off turns few.
    turns_together (machine fresh g.S.Service.after g.S.Service.greeting) boot u i delta given news before old new reads e t st fits later off turns few
