use Rattle.server_trait.specs.Service.{machine}
use Rattle.endpoint_laws.proofs.Turns.{leads_law}
use Rattle.endpoint_laws.proofs.laws.turns_lead_from_point_to_point.Goals as goal

pub returns : goal.returns
returns g c = λ kind news calls before after e begun between stands usual may begun_after laws used.
    leads_law (machine (g.S.Service.started kind) g.S.Service.after g.S.Service.greeting) news calls before after e begun between stands usual may begun_after laws used
