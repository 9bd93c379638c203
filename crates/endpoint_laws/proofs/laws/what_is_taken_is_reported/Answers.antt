use Rattle.endpoint_laws.proofs.Advertised.{all_reported_law}
use Rattle.endpoint_laws.proofs.laws.what_is_taken_is_reported.Goals as goal

pub returns : goal.returns
returns c = λ news calls e begun none receipt may begun_after why. all_reported_law news calls e begun none receipt may begun_after why
