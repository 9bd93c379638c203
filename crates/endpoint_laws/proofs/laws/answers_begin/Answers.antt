use Rattle.endpoint_laws.proofs.Connecting.{answers_law}
use Rattle.endpoint_laws.proofs.laws.answers_begin.Goals as goal

pub returns : goal.returns
returns c = λ iss limit news calls e l small fit may begun. answers_law iss limit news calls e l small fit may begun
