use Rattle.mail_laws.proofs.Logged.{greeting_alone}
use Rattle.mail_laws.proofs.excluded.replies_before_the_read_is_logged.Goals as goal

pub returns : goal.returns
returns c = greeting_alone c.accepted_messages_are_logged.ensures
