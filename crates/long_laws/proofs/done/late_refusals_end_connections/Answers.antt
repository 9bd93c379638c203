use Rattle.long_laws.proofs.done.late_refusals_end_connections.Goals as goal
use Rattle.std.proofs.Common.{refl}
use Rattle.long_laws.proofs.LateRefusal.{is_joint, has_less}

pub returns : goal.returns
returns g = record { joint = is_joint; done = refl; not_ended = ((refl, has_less), tt) }
