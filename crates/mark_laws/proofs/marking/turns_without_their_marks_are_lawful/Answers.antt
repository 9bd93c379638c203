use Rattle.server_trait.specs.Service.{machine}
use Rattle.mark_laws.proofs.MarksSent.{turn_stays}
use Rattle.mark_laws.proofs.marking.turns_without_their_marks_are_lawful.Goals as goal

pub returns : goal.returns
returns g c = λ fresh writing every server boot news p q m n sent turn. turn_stays (machine fresh g.S.Service.after g.S.Service.greeting) writing every server boot news p q m n sent turn
