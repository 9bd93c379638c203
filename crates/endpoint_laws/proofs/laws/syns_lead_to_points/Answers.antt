use Rattle.endpoint_laws.proofs.FirstPoint.{begins_law}
use Rattle.endpoint_laws.proofs.laws.syns_lead_to_points.Goals as goal

pub returns : goal.returns
returns c = λ e iss limit cisn fetched syn calls l whole is number may. begins_law e iss limit cisn fetched syn calls l whole is number may
