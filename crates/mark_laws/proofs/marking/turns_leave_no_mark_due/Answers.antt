use Rattle.server_trait.specs.Service.{machine}
use Rattle.mark_laws.proofs.MarksSent.{turn_settles, answer_settles}
use Rattle.mark_laws.proofs.marking.turns_leave_no_mark_due.Goals as goal

pub returns-clause-turn : goal.returns-clause-turn
returns-clause-turn g c = λ fresh writing every server boot news p q m n sent turn. turn_settles (machine fresh g.S.Service.after g.S.Service.greeting) writing every server boot news p q m n sent turn

pub returns-clause-answer : goal.returns-clause-answer
returns-clause-answer g c = λ fresh writing every boot reads p m n sent settled turn. answer_settles (machine fresh g.S.Service.after g.S.Service.greeting) writing every boot reads p m n sent settled turn
