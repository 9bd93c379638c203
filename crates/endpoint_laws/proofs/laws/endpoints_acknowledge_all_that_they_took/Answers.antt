use Rattle.endpoint_laws.proofs.Advertised.{acknowledges_law}
use Rattle.endpoint_laws.proofs.laws.endpoints_acknowledge_all_that_they_took.Goals as goal

pub returns : goal.returns
returns c = λ measures local remote iss limit turns. acknowledges_law measures local remote iss limit turns
