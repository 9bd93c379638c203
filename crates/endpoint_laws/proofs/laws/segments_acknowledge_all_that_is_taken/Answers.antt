use Rattle.endpoint_laws.proofs.Advertised.{advertises_law}
use Rattle.endpoint_laws.proofs.laws.segments_acknowledge_all_that_is_taken.Goals as goal

pub returns : goal.returns
returns c = λ news calls e none may begun. advertises_law news calls e none may begun
