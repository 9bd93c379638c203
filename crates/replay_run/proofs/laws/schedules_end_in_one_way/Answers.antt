use Rattle.replay_run.specs.Causes.{AllHappen, OneIsRefused, PacketsExceed}
use Rattle.replay_run.proofs.Either.{one_end}
use Rattle.replay_run.proofs.laws.schedules_end_in_one_way.Goals as goal

pub returns : goal.returns
returns c = record {
  whole_or_refused = λ schedule.
      one_end AllHappen OneIsRefused c.schedules_have_one_outcome.ensures.whole_or_refused (λ marks. c.twin_schedules_have_one_outcome.ensures.whole_or_refused)
      c.marked_schedules_have_one_outcome.ensures.whole_or_refused schedule.twin schedule.marks schedule;
  whole_or_past = λ schedule.
      one_end AllHappen PacketsExceed c.schedules_have_one_outcome.ensures.whole_or_past (λ marks. c.twin_schedules_have_one_outcome.ensures.whole_or_past)
      c.marked_schedules_have_one_outcome.ensures.whole_or_past schedule.twin schedule.marks schedule;
  refused_or_past = λ schedule.
      one_end OneIsRefused PacketsExceed c.schedules_have_one_outcome.ensures.refused_or_past (λ marks. c.twin_schedules_have_one_outcome.ensures.refused_or_past)
      c.marked_schedules_have_one_outcome.ensures.refused_or_past schedule.twin schedule.marks schedule;
}
