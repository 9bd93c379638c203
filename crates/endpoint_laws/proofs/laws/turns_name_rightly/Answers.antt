use Rattle.endpoint_laws.proofs.EndingLaw.{named_law}
use Rattle.endpoint_laws.proofs.laws.turns_name_rightly.Goals as goal

pub returns : goal.returns
returns c = λ news calls e begun between named. named_law news calls e begun between named
