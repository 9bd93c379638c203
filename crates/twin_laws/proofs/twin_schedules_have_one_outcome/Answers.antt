use Rattle.ft_model.specs.Legal.{machines}
use Rattle.twin_laws.proofs.OneOutcome as outcome
use Rattle.twin_laws.proofs.twin_schedules_have_one_outcome.Goals as goal

pub returns : goal.returns
returns g c = record {
  whole_or_refused = λ schedule. outcome.whole_or_refused (machines g.S.Service.started g.S.Service.after g.S.Service.greeting) schedule;
  whole_or_past = λ schedule. outcome.whole_or_past (machines g.S.Service.started g.S.Service.after g.S.Service.greeting) schedule;
  refused_or_past = λ schedule. outcome.refused_or_past (machines g.S.Service.started g.S.Service.after g.S.Service.greeting) schedule;
  refused_once = λ schedule. outcome.refused_once (machines g.S.Service.started g.S.Service.after g.S.Service.greeting) schedule;
  past_once = λ schedule. outcome.past_once (machines g.S.Service.started g.S.Service.after g.S.Service.greeting) schedule;
}
