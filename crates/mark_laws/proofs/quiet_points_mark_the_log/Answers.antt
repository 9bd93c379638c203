use Rattle.server_trait.specs.Service.{machine}
use Rattle.mark_laws.proofs.Runs.{quiet_marks}
use Rattle.mark_laws.proofs.quiet_points_mark_the_log.Goals as goal

pub returns : goal.returns
returns g c = λ kind writing script p e taken within fits enough front known quiet.
    quiet_marks (machine (g.S.Service.started kind) g.S.Service.after g.S.Service.greeting) writing script p e taken within fits enough front known quiet
