use Rattle.mail_laws.proofs.Logged.{logged}
use Rattle.mail_laws.proofs.accepted_messages_are_logged.Goals as goal

pub returns : goal.returns
returns c = logged
