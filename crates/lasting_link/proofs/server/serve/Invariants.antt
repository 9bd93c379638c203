use Rattle.std.proofs.Common.{◌≡◌}
use Rattle.lasting_link.specs.LastingParts.{IsLastingServing}
use Rattle.lasting_link.proofs.server.serve.Given as goal

-- so many turns are done, and no bind failed
abbrev pub invariant-loop-turn : goal.invariant-loop-turn
invariant-loop-turn g l =
    IsLastingServing l.role l._turn l.node (g.L.Link.reported l.fn.link) (g.L.Link.reported l.link) l.counts
    × (g.L.Link.bind_fault_count l.link ≡ g.L.Link.bind_fault_count l.fn.link)
