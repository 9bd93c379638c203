use Rattle.server_trait.specs.Service.{machine}
use Rattle.wrapped_conn.proofs.Lending.{reports}
use Rattle.wrapped_conn.proofs.laws.connections_show_their_point.Goals as goal

pub returns : goal.returns
returns g c = λ fresh p now sound stands. reports (machine fresh g.S.Service.after g.S.Service.greeting) p now sound stands
