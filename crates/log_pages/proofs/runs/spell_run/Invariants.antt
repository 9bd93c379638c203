use Rattle.std.proofs.Common.{◌≡◌, ◌+◌, ◌++◌, length, replicate}
use Rattle.log_pages.proofs.runs.spell_run.Given as goal

abbrev pub invariant-loop-more : goal.invariant-loop-more
invariant-loop-more l = (l.lens ≡ l.initial.lens ++ replicate l._more l.run.length) × (length l.lens ≡ length l.initial.lens + l._more)
