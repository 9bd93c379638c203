use Rattle.ft_model.specs.Legal.{machines}
use Rattle.lasting_traces.proofs.OneOutcome.{whole_or_refused, whole_or_past, refused_or_past, refused_once, past_once}
use Rattle.lasting_traces.proofs.lasting_schedules_have_one_outcome.Goals as goal

pub returns : goal.returns
returns g c =
    let services = machines g.S.Service.started g.S.Service.after g.S.Service.greeting in
    record {
      whole_or_refused = λ waits schedule. whole_or_refused services waits schedule;
      whole_or_past = λ waits schedule. whole_or_past services waits schedule;
      refused_or_past = λ waits schedule. refused_or_past services waits schedule;
      refused_once = λ waits schedule. refused_once services waits schedule;
      past_once = λ waits schedule. past_once services waits schedule;
    }
