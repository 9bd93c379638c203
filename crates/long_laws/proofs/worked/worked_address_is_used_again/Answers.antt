use Rattle.std.proofs.Common.{refl}
use Rattle.long_laws.proofs.worked.worked_address_is_used_again.Goals as goal
use Rattle.long_laws.proofs.WorkedTrace.{is_joint}

pub returns : goal.returns
returns c = record { joint = is_joint; clients = refl; past = refl; log = refl }
