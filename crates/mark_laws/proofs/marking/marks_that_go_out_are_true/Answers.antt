use Rattle.server_trait.specs.Service.{machine}
use Rattle.mark_laws.proofs.MarksSent.{reports_truth}
use Rattle.mark_laws.proofs.marking.marks_that_go_out_are_true.Goals as goal

pub returns : goal.returns
returns g c = λ fresh writing every news script m q e taken within fits enough front known held. reports_truth (machine fresh g.S.Service.after g.S.Service.greeting) writing every news script m q e taken within fits enough front known held
