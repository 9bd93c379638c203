use Rattle.server_trait.specs.Service.{machine}
use Rattle.mark_laws.proofs.Closing.{running_reads_on}
use Rattle.mark_laws.proofs.running_services_read_on.Goals as goal

pub returns : goal.returns
returns g c = λ fresh bytes lengths running. running_reads_on (machine fresh g.S.Service.after g.S.Service.greeting) bytes lengths g.met.S.Service.closes running
