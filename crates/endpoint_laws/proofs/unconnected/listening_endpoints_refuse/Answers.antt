use Rattle.endpoint_laws.proofs.NoConnection.{listen_answers_law}
use Rattle.endpoint_laws.proofs.unconnected.listening_endpoints_refuse.Goals as goal

pub returns : goal.returns
returns c = λ iss limit news calls e listening other. listen_answers_law iss limit news calls e listening other
