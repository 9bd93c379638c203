use Rattle.endpoint_laws.proofs.EndingLaw.{ending_law}
use Rattle.endpoint_laws.proofs.laws.connections_end_by_resets_or_fins.Goals as goal

pub returns : goal.returns
returns c = λ news calls e begun between named ended. ending_law news calls e begun between named ended
