use Rattle.server_trait.specs.Service.{machine}
use Rattle.wrapped_conn.proofs.Receiving.{receives}
use Rattle.wrapped_conn.proofs.laws.connections_receive_as_the_law_says.Goals as goal

pub returns : goal.returns
returns g c = λ fresh p segment old new segments messages sound sound_new stands fits turn. receives (machine fresh g.S.Service.after g.S.Service.greeting) p old new segment segments messages sound sound_new stands fits turn
