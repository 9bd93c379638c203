use Rattle.std.specs.Prelude.{◌-◌, length}
use Rattle.server_trait.specs.Service.{machine}
use Rattle.plain_connection.specs.State.{HasRead}
use Rattle.plain_connection.proofs.connection.PlainConnection.read_on.Given as goal

abbrev pub invariant-loop-len : goal.invariant-loop-len
invariant-loop-len g l = HasRead (machine (g.S.Service.started l.initial.self.kind) g.S.Service.after g.S.Service.greeting) l.initial.self l.self

abbrev pub decreases-loop-len : goal.decreases-loop-len
decreases-loop-len g l = 32 - (length l.self.point.lengths - l.self.point.reads_answered)
