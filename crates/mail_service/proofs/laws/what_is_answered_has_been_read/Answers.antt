use Rattle.server_trait.specs.Service.{reference}
use Rattle.mail_service.specs.Mail.{mail_started, mail_greeting}
use Rattle.mail_service.proofs.Replies.{reads_front}
use Rattle.mail_service.proofs.laws.what_is_answered_has_been_read.Goals as goal

pub returns : goal.returns
unfolding reference
returns c bytes lengths = reads_front lengths bytes mail_started (mail_greeting mail_started)
