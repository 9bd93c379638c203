use Rattle.server_trait.specs.Service.{machine}
use Rattle.endpoint_laws.proofs.Ends.{ends_law}
use Rattle.endpoint_laws.proofs.laws.connections_end_at_points.Goals as goal

pub returns : goal.returns
returns g c = λ kind news calls before after e begun between named stands usual may unreset ended laws used.
    ends_law (machine (g.S.Service.started kind) g.S.Service.after g.S.Service.greeting) news calls before after e begun between named stands usual may unreset ended laws used
