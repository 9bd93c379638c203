use Rattle.server_trait.specs.Service.{machine}
use Rattle.twin_laws.proofs.WorkedStop.{says_nothing, no_answer, no_second_stop}
use Rattle.twin_laws.proofs.wrong_loggers_are_refused.Goals as goal

pub returns-clause-paired : goal.returns-clause-paired
returns-clause-paired g c = says_nothing

pub returns-clause-answers : goal.returns-clause-answers
returns-clause-answers g c = λ kind. no_answer (machine (g.S.Service.started kind) g.S.Service.after g.S.Service.greeting)

pub returns-clause-second_stop : goal.returns-clause-second_stop
returns-clause-second_stop g c = λ kind. no_second_stop (machine (g.S.Service.started kind) g.S.Service.after g.S.Service.greeting)
