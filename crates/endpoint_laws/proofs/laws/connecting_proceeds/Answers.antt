use Rattle.endpoint_laws.proofs.Connecting.{connecting_law}
use Rattle.endpoint_laws.proofs.laws.connecting_proceeds.Goals as goal

pub returns : goal.returns
returns c = λ iss limit news calls e l may still. connecting_law iss limit news calls e l may still
