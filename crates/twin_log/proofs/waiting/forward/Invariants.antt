use Rattle.std.proofs.Common.{◌≡◌, ◌+◌, ◌++◌, length, take}
use Rattle.twin_laws.specs.StoredState.{forwards_sent}
use Rattle.twin_log.specs.Outbox.{texts_of}
use Rattle.twin_log.proofs.waiting.forward.Given as goal

abbrev pub invariant-loop-i : goal.invariant-loop-i
invariant-loop-i l =
    (l.out ≡ l.initial.out ++ forwards_sent l.confirmed (take l.i (texts_of l.messages.items))) × (length l.out ≡ length l.initial.out + l.i)
