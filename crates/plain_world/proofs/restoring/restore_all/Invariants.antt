use Rattle.std.proofs.Common.{◌+◌, ◌≤◌, length}
use Rattle.server_trait.specs.Service.{machine}
use Rattle.ft_model.specs.Node.{Stage}
use Rattle.plain_world.specs.Served.{AreServed, AreWhole}
use Rattle.plain_world.specs.Values.{node_of}
use Rattle.plain_world.proofs.Entries.{LastRestored}
use Rattle.plain_world.proofs.restoring.restore_all.Given as goal

abbrev pub invariant-loop-entry : goal.invariant-loop-entry
invariant-loop-entry g l = record {
  restored : (stage : Stage) → LastRestored (machine (g.S.Service.started l.who.kind) g.S.Service.after g.S.Service.greeting) (node_of l.who stage) l.initial.fetched l.fetched l.serving l.initial.sent l.sent;
  whole : AreWhole l.fetched;
  few : l.serving.opened + length l.fetched ≤ 65535;
  served : AreServed l.who.kind (machine (g.S.Service.started l.who.kind) g.S.Service.after g.S.Service.greeting) l.serving.places.items;
}

abbrev pub decreases-loop-entry : goal.decreases-loop-entry
decreases-loop-entry g l = length l.fetched
