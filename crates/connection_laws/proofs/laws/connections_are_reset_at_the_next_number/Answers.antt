use Rattle.connection_laws.proofs.ResetNumber.{resets_is}
use Rattle.connection_laws.proofs.laws.connections_are_reset_at_the_next_number.Goals as goal

pub returns : goal.returns
returns c = resets_is
