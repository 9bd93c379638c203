use Rattle.server_trait.specs.Service.{machine}
use Rattle.connection_laws.proofs.FirstSyn.{begins_inside}
use Rattle.connection_laws.proofs.laws.new_connections_begin_by_their_syn.Goals as goal

pub returns : goal.returns
returns g c = λ fresh profile timestamping boot local numbers after calls sent may_open may goes. begins_inside (machine fresh g.S.Service.after g.S.Service.greeting) profile timestamping boot local numbers after calls sent may_open may goes
