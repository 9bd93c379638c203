use Rattle.server_trait.specs.Service.{machine}
use Rattle.connection_laws.proofs.Fed.{north_feeds}
use Rattle.connection_laws.proofs.laws.north_feeds_tcp.Goals as goal

pub returns : goal.returns
returns g c = λ fresh boot u i delta given news before after sent old new reads e t st k. north_feeds (machine fresh g.S.Service.after g.S.Service.greeting) boot u i delta given news before after sent old new reads e t st k
