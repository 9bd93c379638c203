use Rattle.endpoint_laws.proofs.EndingLaw.{begun_named_law}
use Rattle.endpoint_laws.proofs.laws.syns_name_rightly.Goals as goal

pub returns : goal.returns
returns c = λ e iss limit syn calls l is. begun_named_law e iss limit syn calls l is
