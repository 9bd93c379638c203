use Rattle.net_schedule.specs.WorldView.{kept}
use Rattle.replay_seed.specs.SeedSummaries.{StandsBehind}
use Rattle.replay_seed.proofs.seed_progress.Progress.play.Given as goal

abbrev pub invariant-loop-n : goal.invariant-loop-n
invariant-loop-n l = StandsBehind l.asked l.n (kept l.world) l.self
