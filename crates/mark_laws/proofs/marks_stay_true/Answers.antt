use Rattle.server_trait.specs.Service.{machine}
use Rattle.mark_laws.proofs.Runs.{grows}
use Rattle.mark_laws.proofs.marks_stay_true.Goals as goal

pub returns : goal.returns
returns g c = λ kind writing before after m grew run. grows (machine (g.S.Service.started kind) g.S.Service.after g.S.Service.greeting) writing before after m grew run
