use Rattle.endpoint_laws.proofs.Connecting.{answers_advertise_law}
use Rattle.endpoint_laws.proofs.laws.answers_are_acknowledged.Goals as goal

pub returns : goal.returns
returns c = λ iss limit news calls e l may begun. answers_advertise_law iss limit news calls e l may begun
