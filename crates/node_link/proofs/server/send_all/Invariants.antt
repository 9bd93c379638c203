use Rattle.std.proofs.Common.{◌≡◌, take}
use Rattle.node_link.specs.ServerParts.{HasSent}
use Rattle.node_link.proofs.server.send_all.Given as goal

-- the packets so far were handed to send, and no bind was made
abbrev pub invariant-loop-packet : goal.invariant-loop-packet
invariant-loop-packet g l =
    HasSent l.loggers (take l.packet-index l.packets) (g.L.Link.reported l.initial.link) (g.L.Link.reported l.link) l.initial.counts l.counts
    × (g.L.Link.bind_fault_count l.link ≡ g.L.Link.bind_fault_count l.initial.link)
