use Rattle.server_trait.specs.Service.{machine}
use Rattle.mark_laws.proofs.MarksSent.{stand_before_done}
use Rattle.mark_laws.proofs.marking.marks_stand_before_done.Goals as goal

pub returns : goal.returns
returns g c = λ fresh server boot news p q marks. stand_before_done (machine fresh g.S.Service.after g.S.Service.greeting) server boot news p q marks
