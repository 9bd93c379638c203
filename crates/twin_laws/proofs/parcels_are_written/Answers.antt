use Rattle.server_trait.specs.Service.{machine}
use Rattle.twin_laws.proofs.TraceBytes.{all_written}
use Rattle.twin_laws.proofs.parcels_are_written.Goals as goal

pub returns : goal.returns
returns g c = λ kind start trace is. all_written (machine (g.S.Service.started kind) g.S.Service.after g.S.Service.greeting) (c.packets_have_wires.ensures.all kind) start trace is
