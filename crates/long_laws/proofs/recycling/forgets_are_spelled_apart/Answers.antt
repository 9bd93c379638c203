use Rattle.long_laws.proofs.ForgetRead.{spelled_once}
use Rattle.long_laws.proofs.recycling.forgets_are_spelled_apart.Goals as goal

pub returns : goal.returns
returns c = spelled_once
