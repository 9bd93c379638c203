use Rattle.mail_service.specs.Mail.{mail_started, mail_greeting}
use Rattle.mail_service.proofs.Replies.{runs}
use Rattle.mail_service.proofs.laws.replies_are_given_however_the_input_is_cut.Goals as goal

pub returns-clause-output : goal.returns-clause-output
returns-clause-output c chunks some = (runs chunks mail_started (mail_greeting mail_started) some).output

pub returns-clause-closed : goal.returns-clause-closed
returns-clause-closed c chunks some = (runs chunks mail_started (mail_greeting mail_started) some).closed
