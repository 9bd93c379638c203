use Rattle.server_trait.specs.Service.{machine}
use Rattle.mark_laws.proofs.MarksSent.{tick_repeats}
use Rattle.mark_laws.proofs.marking.ticks_make_no_new_mark.Goals as goal

pub returns : goal.returns
returns g c = λ fresh writing every server boot p q m n sent settled turn. tick_repeats (machine fresh g.S.Service.after g.S.Service.greeting) writing every server boot p q m n sent settled turn
