use Rattle.server_trait.specs.Service.{machine}
use Rattle.connection_laws.proofs.Together.{ticks_together, ticks_add_nothing}
use Rattle.connection_laws.proofs.laws.connections_tick_by_their_tcp.Goals as goal

pub returns-clause-turn : goal.returns-clause-turn
returns-clause-turn g c = λ fresh boot u i delta given before n e rest. ticks_together (machine fresh g.S.Service.after g.S.Service.greeting) boot u i delta given before n e rest

pub returns-clause-adds : goal.returns-clause-adds
returns-clause-adds g c = λ fresh server boot before after t sent turn lengths. ticks_add_nothing (machine fresh g.S.Service.after g.S.Service.greeting) server boot before after t sent turn lengths
