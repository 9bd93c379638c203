use Rattle.replay_run.proofs.Either.{safe_in}
use Rattle.replay_run.proofs.laws.legal_traces_are_safe.Goals as goal

pub returns : goal.returns
returns c = λ schedule.
    safe_in c.joint_traces_are_safe.ensures c.legal_traces_are_masked.ensures.legal
    (record {
      masked = c.marked_schedules_are_masked.ensures;
      resets = c.marked_traces_reset_no_logged_connection.ensures;
      fenced = c.marked_traces_fence_no_server.ensures.stage;
      cut = c.marked_traces_cut_the_bytes.ensures;
      are_true = c.marks_are_true.ensures;
    }) schedule.twin schedule.marks schedule
