use Rattle.long_laws.proofs.ForgetRead.{forget_is_read}
use Rattle.long_laws.proofs.recycling.forget_is_read.Goals as goal

pub returns : goal.returns
returns c = forget_is_read
