use Rattle.std.proofs.Common.{◌≡◌}
use Rattle.link_parts.proofs.Pairing.{Goes}
use Rattle.link_parts.proofs.pair.take_steps.Given as goal

-- so many steps are done, and none failed
abbrev pub invariant-loop-step : goal.invariant-loop-step
invariant-loop-step g l =
    Goes l.steps l.step-index (g.P.Spawner.started l.fn.kids) l.children (g.P.Spawner.started l.kids) (g.P.Spawner.reported l.fn.kids) (g.P.Spawner.reported l.kids)
    (g.O.Sink.taken l.fn.out) (g.O.Sink.taken l.out)
    × (g.P.Spawner.fault_count l.kids ≡ g.P.Spawner.fault_count l.fn.kids) × (g.O.Sink.fault_count l.out ≡ g.O.Sink.fault_count l.fn.out)
