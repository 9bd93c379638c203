use Rattle.endpoint_laws.proofs.TurnLaw.{ticked_law}
use Rattle.endpoint_laws.proofs.laws.ticks_time_by_law.Goals as goal

pub returns : goal.returns
returns c = λ e u some timing interval rest. ticked_law e u some timing interval rest
