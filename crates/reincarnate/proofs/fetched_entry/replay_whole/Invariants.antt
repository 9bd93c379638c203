use Rattle.std.proofs.Common.{◌≡◌, ◌≤◌, length}
use Rattle.std.specs.List.{AllByRecursion}
use Rattle.reincarnate.specs.Progress.{replayed_from}
use Rattle.reincarnate.proofs.fetched_entry.replay_whole.Given as goal

-- what is left to be replayed comes to the same
abbrev pub invariant-loop-size : goal.invariant-loop-size
invariant-loop-size g l =
    (replayed_from g.S.Service.after l.waiting.items l.replay ≡ replayed_from g.S.Service.after l.initial.waiting.items l.initial.replay)
    × AllByRecursion (λ n. n ≤ 2048) l.waiting.items

abbrev pub decreases-loop-size : goal.decreases-loop-size
decreases-loop-size g l = length l.waiting.items
