use Rattle.mail_service.proofs.Messages.{is_accepted, is_too_large}
use Rattle.mail_service.proofs.laws.each_message_has_one_reply.Goals as goal

pub returns-clause-accepted : goal.returns-clause-accepted
returns-clause-accepted c accepted lines rest none fits = is_accepted accepted lines rest none fits

pub returns-clause-too_large : goal.returns-clause-too_large
returns-clause-too_large c accepted lines rest none more = is_too_large accepted lines rest none more
