use Rattle.web_service.proofs.Messages.{message_reads}
use Rattle.web_service.proofs.laws.a_message_is_one_request.Goals as goal

pub returns : goal.returns
returns c = message_reads
