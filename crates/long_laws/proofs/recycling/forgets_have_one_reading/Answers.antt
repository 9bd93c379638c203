use Rattle.long_laws.proofs.ForgetNoise.{no_message, no_mark, no_twin}
use Rattle.long_laws.proofs.recycling.forgets_have_one_reading.Goals as goal

pub returns-clause-message : goal.returns-clause-message
returns-clause-message c = no_message

pub returns-clause-mark : goal.returns-clause-mark
returns-clause-mark c = no_mark

pub returns-clause-twin : goal.returns-clause-twin
returns-clause-twin c = no_twin
