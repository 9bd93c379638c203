use Rattle.twin_laws.proofs.Noise.{flipped_is_noise}
use Rattle.twin_laws.proofs.flipped_datagrams_are_noise.Goals as goal

pub returns : goal.returns
returns c = flipped_is_noise
