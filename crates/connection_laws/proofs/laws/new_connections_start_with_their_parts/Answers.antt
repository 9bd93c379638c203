use Rattle.server_trait.specs.Service.{machine}
use Rattle.connection_laws.proofs.NewParts.{starts_together}
use Rattle.connection_laws.proofs.laws.new_connections_start_with_their_parts.Goals as goal

pub returns : goal.returns
returns g c = λ fresh profile timestamping boot local numbers old new reads t may north open_still turns few.
    starts_together (machine fresh g.S.Service.after g.S.Service.greeting) profile timestamping boot local numbers old new reads t may north open_still turns few
