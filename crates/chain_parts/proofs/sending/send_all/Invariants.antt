use Rattle.std.proofs.Common.{◌≡◌, take}
use Rattle.chain_parts.specs.PartTurns.{addressed}
use Rattle.chain_parts.specs.PartSteps.{HasSent}
use Rattle.chain_parts.proofs.sending.send_all.Given as goal

-- the first of them were handed to send, and no bind failed
abbrev pub invariant-loop-i : goal.invariant-loop-i
invariant-loop-i g l =
    HasSent (addressed l.server l.other (take l.i l.out)) (g.L.Link.reported l.initial.link) (g.L.Link.reported l.link) l.initial.counts l.counts
    × (g.L.Link.bind_fault_count l.link ≡ g.L.Link.bind_fault_count l.initial.link)
