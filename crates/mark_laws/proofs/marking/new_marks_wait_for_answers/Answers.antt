use Rattle.server_trait.specs.Service.{machine}
use Rattle.mark_laws.proofs.MarksSent.{counts_answered, none_while_outstanding}
use Rattle.mark_laws.proofs.marking.new_marks_wait_for_answers.Goals as goal

pub returns-clause-acknowledged : goal.returns-clause-acknowledged
returns-clause-acknowledged g c = λ fresh writing every m p. counts_answered (machine fresh g.S.Service.after g.S.Service.greeting) writing every m p

pub returns-clause-outstanding : goal.returns-clause-outstanding
returns-clause-outstanding g c = λ fresh writing every m p mark is. none_while_outstanding (machine fresh g.S.Service.after g.S.Service.greeting) writing every m p mark is
