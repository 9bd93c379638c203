use Rattle.trace_laws.proofs.packets_for_others_are_near.Goals as goal
use Rattle.trace_laws.proofs.Near.{others_near}

pub returns : goal.returns
returns c = others_near
