use Rattle.std.proofs.Common.{ap}
use Rattle.server_trait.specs.Service.{machine}
use Rattle.ft_model.proofs.laws.plain_stays.Goals as goal
use Rattle.ft_model.proofs.PlainTurns.{due_is_pending}
use Rattle.ft_model.proofs.Profiles.{plain_after, plain_unstamped}

pub returns-clause-timing : goal.returns-clause-timing
returns-clause-timing g c = λ kind start trace node joint up is_plain. plain_after (machine (g.S.Service.started kind) g.S.Service.after g.S.Service.greeting) start trace node joint up is_plain

pub returns-clause-timestamps : goal.returns-clause-timestamps
returns-clause-timestamps g c = λ kind start trace node joint up is_plain. plain_unstamped (machine (g.S.Service.started kind) g.S.Service.after g.S.Service.greeting) start trace node joint up is_plain

pub returns-clause-ack : goal.returns-clause-ack
returns-clause-ack g c = λ kind news before after off. due_is_pending (machine (g.S.Service.started kind) g.S.Service.after g.S.Service.greeting) news before after off

pub returns-clause-base : goal.returns-clause-base
returns-clause-base g c = λ p e. ap (λ t. t.base) e
