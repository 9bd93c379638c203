use Rattle.server_trait.specs.Service.{machine}
use Rattle.ft_model.proofs.laws.profiles_stay.Goals as goal
use Rattle.ft_model.proofs.Profiles.{opened_has, entry_has, turn_keeps, profile_after}

pub returns-clause-opened : goal.returns-clause-opened
returns-clause-opened g c = opened_has

pub returns-clause-restored : goal.returns-clause-restored
returns-clause-restored g c = λ kind profile entry. entry_has (machine (g.S.Service.started kind) g.S.Service.after g.S.Service.greeting) profile entry

pub returns-clause-turn : goal.returns-clause-turn
returns-clause-turn g c = λ kind boot profile server news before after sent turn has. turn_keeps (machine (g.S.Service.started kind) g.S.Service.after g.S.Service.greeting) profile server boot news before after sent turn has

pub returns-clause-trace : goal.returns-clause-trace
returns-clause-trace g c = λ kind start trace node joint up. profile_after (machine (g.S.Service.started kind) g.S.Service.after g.S.Service.greeting) start trace node joint up
