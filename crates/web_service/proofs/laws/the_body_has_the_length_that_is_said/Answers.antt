use Rattle.web_service.proofs.Framing.{get_is_framed}
use Rattle.web_service.proofs.laws.the_body_has_the_length_that_is_said.Goals as goal

pub returns : goal.returns
returns c = get_is_framed
