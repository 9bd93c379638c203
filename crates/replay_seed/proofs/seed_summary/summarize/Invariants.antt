use Rattle.std.proofs.Common.{◌≡◌, ◌++◌, take}
use Rattle.replay_seed.specs.SummaryText.{first_line, client_results}
use Rattle.replay_seed.proofs.seed_summary.summarize.Given as goal

abbrev pub invariant-loop-i : goal.invariant-loop-i
invariant-loop-i l =
    l.lines.items
    ≡ first_line l.fn.asked.seed l.fn.asked.clients l.fn.asked.events l.progress.packets l.progress.boots l.progress.crashes ++ client_results 1 (take l.i l.world.clients.items)
