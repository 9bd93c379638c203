use Rattle.std.proofs.Common.{◌≡◌, None}
use Rattle.std.specs.Io.KnownBytes.{Appends}
use Rattle.link_parts.proofs.ClientRunning.{RunsTo}
use Rattle.link_parts.proofs.client.take_turns.Given as goal

-- so many turns are done, the connection has no outcome, and no write and no bind failed
abbrev pub invariant-loop-turn : goal.invariant-loop-turn
invariant-loop-turn g l =
    RunsTo l.fn.client l._turn (g.L.Link.reported l.fn.link) (g.L.Link.reported l.link) (Appends (g.O.Sink.taken l.fn.out) (g.O.Sink.taken l.out)) l.client
    × (l.client.outcome ≡ None) × (g.O.Sink.fault_count l.out ≡ g.O.Sink.fault_count l.fn.out)
    × (g.L.Link.bind_fault_count l.link ≡ g.L.Link.bind_fault_count l.fn.link)
