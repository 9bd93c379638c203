use Rattle.std.specs.Prelude.{◌-◌}
use Rattle.server_trait.specs.Service.{machine}
use Rattle.plain_connection.proofs.Texts.{SentSoFar}
use Rattle.plain_connection.proofs.connection.PlainConnection.send_texts.Given as goal

abbrev pub invariant-loop-step : goal.invariant-loop-step
invariant-loop-step g l =
    SentSoFar (machine (g.S.Service.started l.self.kind) g.S.Service.after g.S.Service.greeting) l.server l.self.point l.from l.len l.initial.sent l.sent (l.len - l._step) l.offset l.left
