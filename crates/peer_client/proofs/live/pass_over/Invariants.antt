use Rattle.std.proofs.Common.{◌≡◌, ◌≤◌, length}
use Rattle.tcp_endpoint.specs.UserCalls.{after_read}
use Rattle.peer_client.proofs.live.pass_over.Given as goal

-- what is left to read, read at once, leads to the same
abbrev pub invariant-loop-left : goal.invariant-loop-left
invariant-loop-left l =
    (l.left ≤ length l.endpoint.receiving.unread) × (after_read l.endpoint l.left ≡ after_read l.initial.endpoint l.initial.left)

abbrev pub decreases-loop-left : goal.decreases-loop-left
decreases-loop-left l = l.left
