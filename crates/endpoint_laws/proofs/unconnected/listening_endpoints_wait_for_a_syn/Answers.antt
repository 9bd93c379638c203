use Rattle.endpoint_laws.proofs.NoConnection.{listen_stays_law}
use Rattle.endpoint_laws.proofs.unconnected.listening_endpoints_wait_for_a_syn.Goals as goal

pub returns : goal.returns
returns c = λ iss limit news e listening other. listen_stays_law iss limit news e listening other
