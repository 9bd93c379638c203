use Rattle.logger_store.proofs.Answers.{answer_read}
use Rattle.logger_store.proofs.laws.answers_are_messages.Goals as goal

pub returns : goal.returns
returns c = λ answer bytes is reply. answer_read answer bytes is reply
