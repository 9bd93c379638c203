use Rattle.endpoint_laws.proofs.EndingLaw.{reset_law}
use Rattle.endpoint_laws.proofs.laws.connections_are_reset_at_the_next_number.Goals as goal

pub returns : goal.returns
returns c = λ news calls e begun. reset_law news calls e begun
