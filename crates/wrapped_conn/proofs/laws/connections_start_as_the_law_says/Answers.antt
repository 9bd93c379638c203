use Rattle.server_trait.specs.Service.{machine}
use Rattle.wrapped_conn.proofs.Arrivals.{starts}
use Rattle.wrapped_conn.proofs.Joining.{new_starts}
use Rattle.wrapped_conn.proofs.laws.connections_start_as_the_law_says.Goals as goal

pub returns-clause-new : goal.returns-clause-new
returns-clause-new g c = λ fresh profile boot local numbers new segments messages may sound starting. new_starts (machine fresh g.S.Service.after g.S.Service.greeting) profile boot local numbers new segments messages may sound starting

pub returns-clause-joined : goal.returns-clause-joined
returns-clause-joined g c = λ fresh p old new segments messages sound sound_new stands starting. starts (machine fresh g.S.Service.after g.S.Service.greeting) p old new segments messages sound sound_new stands starting
