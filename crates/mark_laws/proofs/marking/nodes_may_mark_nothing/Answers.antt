use Rattle.server_trait.specs.Service.{machine}
use Rattle.mark_laws.proofs.MarksSent.{unmarked_turn}
use Rattle.mark_laws.proofs.marking.nodes_may_mark_nothing.Goals as goal

pub returns : goal.returns
returns g c = λ fresh writing server boot news p q m n sent none turn. unmarked_turn (machine fresh g.S.Service.after g.S.Service.greeting) writing server boot news p q m n sent none turn
