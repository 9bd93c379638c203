use Rattle.ft_model.proofs.headline.no_server_is_fenced.Goals as goal
use Rattle.server_trait.specs.Service.{machine}
use Rattle.ft_model.proofs.Unfenced.{never_fenced, no_fence}

pub returns-clause-stage : goal.returns-clause-stage
returns-clause-stage g c = λ kind start trace joint. never_fenced (machine (g.S.Service.started kind) g.S.Service.after g.S.Service.greeting) start trace joint

pub returns-clause-input : goal.returns-clause-input
returns-clause-input g c = λ kind start trace node input joint up comes. no_fence (machine (g.S.Service.started kind) g.S.Service.after g.S.Service.greeting) start trace node input joint up comes
