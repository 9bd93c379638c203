use Rattle.std.proofs.Common.{◌≡◌, drop}
use Rattle.std.specs.VecDeque.{deque_capacity}
use Rattle.twin_log.proofs.waiting.drop_messages.Given as goal

abbrev pub invariant-loop-more : goal.invariant-loop-more
invariant-loop-more l =
    (l.messages.items ≡ drop l._more l.initial.messages.items) × (deque_capacity l.messages ≡ deque_capacity l.initial.messages)
