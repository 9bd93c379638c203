use Rattle.std.proofs.Common.{◌≡◌}
use Rattle.link_parts.specs.LoggerParts.{HasServed}
use Rattle.link_parts.proofs.logger.serve.Given as goal

-- so many turns are done, and no bind failed
abbrev pub invariant-loop-turn : goal.invariant-loop-turn
invariant-loop-turn g l =
    HasServed l.heeded l._turn (g.L.Link.reported l.initial.link) (g.L.Link.reported l.link) l.store l.counts
    × (g.L.Link.bind_fault_count l.link ≡ g.L.Link.bind_fault_count l.initial.link)
