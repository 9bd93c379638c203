use Rattle.ft_model.proofs.laws.schedules_have_one_outcome.Goals as goal
use Rattle.ft_model.specs.Legal.{machines}
use Rattle.ft_model.proofs.Outcomes.{whole_or_refused, whole_or_past, refused_or_past, refused_once, past_once}

pub returns-clause-whole_or_refused : goal.returns-clause-whole_or_refused
returns-clause-whole_or_refused g c = λ schedule a b. whole_or_refused (machines g.S.Service.started g.S.Service.after g.S.Service.greeting) schedule a b

pub returns-clause-whole_or_past : goal.returns-clause-whole_or_past
returns-clause-whole_or_past g c = λ schedule a b. whole_or_past (machines g.S.Service.started g.S.Service.after g.S.Service.greeting) schedule a b

pub returns-clause-refused_or_past : goal.returns-clause-refused_or_past
returns-clause-refused_or_past g c = λ schedule a b. refused_or_past (machines g.S.Service.started g.S.Service.after g.S.Service.greeting) schedule a b

pub returns-clause-refused_once : goal.returns-clause-refused_once
returns-clause-refused_once g c = λ schedule a b. refused_once (machines g.S.Service.started g.S.Service.after g.S.Service.greeting) schedule a b

pub returns-clause-past_once : goal.returns-clause-past_once
returns-clause-past_once g c = λ schedule a b. past_once (machines g.S.Service.started g.S.Service.after g.S.Service.greeting) schedule a b
