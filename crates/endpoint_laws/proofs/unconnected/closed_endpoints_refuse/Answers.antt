use Rattle.endpoint_laws.proofs.NoConnection.{closed_answers_law}
use Rattle.endpoint_laws.proofs.unconnected.closed_endpoints_refuse.Goals as goal

pub returns : goal.returns
returns c = λ news calls e closed none. closed_answers_law news calls e closed none
