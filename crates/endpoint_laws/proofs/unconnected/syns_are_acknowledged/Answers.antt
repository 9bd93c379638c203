use Rattle.endpoint_laws.proofs.NoConnection.{syn_is_reported_law}
use Rattle.endpoint_laws.proofs.unconnected.syns_are_acknowledged.Goals as goal

pub returns : goal.returns
returns c = λ iss limit syn calls e listening is may. syn_is_reported_law iss limit syn calls e listening is may
