use Rattle.long_laws.proofs.ForgetNoise.{flipped_forget_is_refused}
use Rattle.long_laws.proofs.recycling.flipped_forget_is_refused.Goals as goal

pub returns : goal.returns
returns c = flipped_forget_is_refused
