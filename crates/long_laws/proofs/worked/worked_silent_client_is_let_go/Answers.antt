use Rattle.std.proofs.Common.{refl}
use Rattle.long_laws.proofs.worked.worked_silent_client_is_let_go.Goals as goal
use Rattle.long_laws.proofs.WorkedTrace.{silent_is_joint}

pub returns : goal.returns
returns c = record { joint = silent_is_joint; clients = refl; past = refl }
