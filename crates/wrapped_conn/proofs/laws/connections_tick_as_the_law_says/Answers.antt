use Rattle.server_trait.specs.Service.{machine}
use Rattle.wrapped_conn.proofs.Ticking.{ticks}
use Rattle.wrapped_conn.proofs.laws.connections_tick_as_the_law_says.Goals as goal

pub returns : goal.returns
returns g c = λ fresh p old new segments messages sound stands turn. ticks (machine fresh g.S.Service.after g.S.Service.greeting) p old new segments messages sound stands turn
