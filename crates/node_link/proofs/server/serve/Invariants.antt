use Rattle.std.proofs.Common.{◌≡◌}
use Rattle.ft_model.specs.Legal.{machines}
use Rattle.node_link.specs.ServerParts.{IsServing, standing_of}
use Rattle.node_link.proofs.server.serve.Given as goal

-- so many turns are done, and no bind failed
abbrev pub invariant-loop-turn : goal.invariant-loop-turn
invariant-loop-turn g l =
    IsServing (machines g.S.Service.started g.S.Service.after g.S.Service.greeting) l.role l._turn (standing_of l.node) (g.L.Link.reported l.fn.link) (g.L.Link.reported l.link) l.counts
    × (g.L.Link.bind_fault_count l.link ≡ g.L.Link.bind_fault_count l.fn.link)
