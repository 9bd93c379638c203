use Rattle.endpoint_laws.proofs.NoConnection.{closed_stays_law}
use Rattle.endpoint_laws.proofs.unconnected.closed_endpoints_stay_closed.Goals as goal

pub returns : goal.returns
returns c = λ news calls e closed none. closed_stays_law news calls e closed none
