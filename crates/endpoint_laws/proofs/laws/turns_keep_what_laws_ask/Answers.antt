use Rattle.endpoint_laws.proofs.Anywhere.{kept_law}
use Rattle.endpoint_laws.proofs.laws.turns_keep_what_laws_ask.Goals as goal

pub returns : goal.returns
returns c = λ news calls e fits begun between usual may begun_after. kept_law news calls e fits begun between usual may begun_after
