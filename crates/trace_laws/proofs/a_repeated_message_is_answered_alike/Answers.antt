use Rattle.trace_laws.proofs.a_repeated_message_is_answered_alike.Goals as goal
use Rattle.trace_laws.proofs.Again.{log_again, answered_again}

pub returns-clause-same : goal.returns-clause-same
returns-clause-same c = λ log message. log_again log message

pub returns-clause-answer : goal.returns-clause-answer
returns-clause-answer c = λ log message. answered_again log message
