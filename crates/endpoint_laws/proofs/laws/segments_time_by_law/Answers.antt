use Rattle.endpoint_laws.proofs.TurnLaw.{timer_law}
use Rattle.endpoint_laws.proofs.laws.segments_time_by_law.Goals as goal

pub returns : goal.returns
returns c = λ e u p begun b usual timing interval rest. timer_law e u p begun b usual timing interval rest
