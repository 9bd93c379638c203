use Rattle.ft_model.specs.Legal.{machines}
use Rattle.mark_laws.specs.MarkedLegal.{markers}
use Rattle.mark_laws.proofs.OneOutcome as outcome
use Rattle.mark_laws.proofs.marked_schedules_have_one_outcome.Goals as goal

pub returns : goal.returns
returns g c = record {
  whole_or_refused = λ every schedule. outcome.whole_or_refused (markers (machines g.S.Service.started g.S.Service.after g.S.Service.greeting) g.S.Saved.form g.S.Saved.state_of every) schedule;
  whole_or_past = λ every schedule. outcome.whole_or_past (markers (machines g.S.Service.started g.S.Service.after g.S.Service.greeting) g.S.Saved.form g.S.Saved.state_of every) schedule;
  refused_or_past = λ every schedule. outcome.refused_or_past (markers (machines g.S.Service.started g.S.Service.after g.S.Service.greeting) g.S.Saved.form g.S.Saved.state_of every) schedule;
  refused_once = λ every schedule. outcome.refused_once (markers (machines g.S.Service.started g.S.Service.after g.S.Service.greeting) g.S.Saved.form g.S.Saved.state_of every) schedule;
  past_once = λ every schedule. outcome.past_once (markers (machines g.S.Service.started g.S.Service.after g.S.Service.greeting) g.S.Saved.form g.S.Saved.state_of every) schedule;
}
