use Rattle.endpoint_laws.proofs.Listening.{listening_law}
use Rattle.endpoint_laws.proofs.laws.listening_proceeds.Goals as goal

pub returns : goal.returns
returns c = λ iss limit news calls e l none may still. listening_law iss limit news calls e l none may still
