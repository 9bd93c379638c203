use Rattle.std.proofs.Common.{◌≡◌}
use Rattle.link_parts.proofs.ClientRunning.{Hands}
use Rattle.link_parts.proofs.client.send_all.Given as goal

-- so many packets were handed to send, and no bind was made
abbrev pub invariant-loop-i : goal.invariant-loop-i
invariant-loop-i g l =
    Hands l.to l.i l.outbox (g.L.Link.reported l.initial.link) (g.L.Link.reported l.link)
    × (g.L.Link.bind_fault_count l.link ≡ g.L.Link.bind_fault_count l.initial.link)
