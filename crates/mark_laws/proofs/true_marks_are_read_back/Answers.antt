use Rattle.server_trait.specs.Service.{machine}
use Rattle.mark_laws.proofs.Runs.{front_is}
use Rattle.mark_laws.proofs.true_marks_are_read_back.Goals as goal

pub returns : goal.returns
returns g c = λ kind writing e m back bytes run. front_is (machine (g.S.Service.started kind) g.S.Service.after g.S.Service.greeting) writing e m back bytes run
