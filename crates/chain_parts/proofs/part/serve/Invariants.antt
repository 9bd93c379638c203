use Rattle.std.proofs.Common.{◌≡◌}
use Rattle.chain_parts.specs.PartSteps.{standing_of, IsServing}
use Rattle.chain_parts.proofs.part.serve.Given as goal

-- so many turns are done, and no bind failed
abbrev pub invariant-loop-turn : goal.invariant-loop-turn
invariant-loop-turn g l =
    IsServing l.role l._turn (standing_of l.twin) (g.L.Link.reported l.initial.link) (g.L.Link.reported l.link) l.counts
    × (g.L.Link.bind_fault_count l.link ≡ g.L.Link.bind_fault_count l.initial.link)
