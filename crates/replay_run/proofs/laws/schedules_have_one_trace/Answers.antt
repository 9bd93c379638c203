use Rattle.replay_run.proofs.OneReading.{once}
use Rattle.replay_run.proofs.laws.schedules_have_one_trace.Goals as goal

pub returns : goal.returns
returns c = λ schedule.
    once c.legal_traces_are_determined.ensures c.legal_twin_traces_are_determined.ensures c.legal_marked_traces_are_determined.ensures schedule.twin schedule.marks schedule
