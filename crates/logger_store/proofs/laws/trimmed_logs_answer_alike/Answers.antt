use Rattle.logger_store.proofs.LeftLogs.{answers_left}
use Rattle.logger_store.proofs.laws.trimmed_logs_answer_alike.Goals as goal

pub returns : goal.returns
returns c = λ t log message left. answers_left t log message left
