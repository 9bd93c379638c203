use Rattle.server_trait.specs.Service.{machine}
use Rattle.wrapped_conn.proofs.Joining.{joins_at_entry}
use Rattle.wrapped_conn.proofs.laws.joined_connections_stand_at_the_entry.Goals as goal

pub returns : goal.returns
returns g c = λ fresh profile boot local e i n goes replayed. joins_at_entry (machine fresh g.S.Service.after g.S.Service.greeting) profile boot local e i n goes replayed
