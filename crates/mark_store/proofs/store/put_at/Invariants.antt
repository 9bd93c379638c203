use Rattle.std.proofs.Common.{◌≡◌, ◌≤◌, ◌+◌, ◌++◌, length, replicate, vec_capacity}
use Rattle.mark_laws.specs.MarkedLog.{no_mark}
use Rattle.mark_store.proofs.store.put_at.Given as goal

abbrev pub invariant-loop-more : goal.invariant-loop-more
invariant-loop-more l =
    (l.marks.items ≡ l.initial.marks.items ++ replicate l._more no_mark) × (length l.marks.items ≡ length l.initial.marks.items + l._more)
    × (length l.initial.marks.items + l.missing ≤ vec_capacity l.marks)
