use Rattle.std.specs.Prelude.{◌≡◌, take}
use Rattle.server_trait.specs.Service.{machine}
use Rattle.plain_connection.specs.State.{IsServed}
use Rattle.plain_connection.proofs.connection.PlainConnection.read_again.Given as goal

abbrev pub invariant-loop-len : goal.invariant-loop-len
invariant-loop-len g l = record {
  kind : l.self.kind ≡ l.initial.self.kind;
  point : l.self.point ≡ record l.initial.self.point { lengths = take l.len-index l.lengths };
  served : IsServed (machine (g.S.Service.started l.initial.self.kind) g.S.Service.after g.S.Service.greeting) l.self;
}
