use Rattle.endpoint_laws.proofs.EndingLaw.{silent_law}
use Rattle.endpoint_laws.proofs.laws.resets_close_in_silence.Goals as goal

pub returns : goal.returns
returns c = λ news calls e begun between h. silent_law news calls e begun between h
