use Rattle.long_laws.proofs.ForgetNoise.{has_its_length}
use Rattle.long_laws.proofs.recycling.forgets_have_30_bytes.Goals as goal

pub returns : goal.returns
returns c = has_its_length
