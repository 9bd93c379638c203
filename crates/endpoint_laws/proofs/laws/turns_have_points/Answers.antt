use Rattle.endpoint_laws.proofs.Points.{points_law}
use Rattle.endpoint_laws.proofs.laws.turns_have_points.Goals as goal

pub returns : goal.returns
returns c = λ news calls before e begun between stands usual may begun_after. points_law news calls before e begun between stands usual may
