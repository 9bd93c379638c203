use Rattle.web_service.proofs.Framing.{get_is_head_and_body}
use Rattle.web_service.proofs.laws.head_is_get_without_the_body.Goals as goal

pub returns : goal.returns
returns c = get_is_head_and_body
