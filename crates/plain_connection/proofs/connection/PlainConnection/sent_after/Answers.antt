use Rattle.std.proofs.Common.{◌∙◌, ◌+◌, ap}
use Rattle.server_trait.specs.Service.{machine}
use Rattle.plain_connection.proofs.Turns.{sent_is}
use Rattle.plain_connection.proofs.connection.PlainConnection.sent_after.Goals as goal

pub returns-in-Some : goal.returns-in-Some
returns-in-Some g c = λ news p b.
    sent_is (machine (g.S.Service.started c.args.self.now.kind) g.S.Service.after g.S.Service.greeting) news p c.args.self.now.point c.sent_at_once-at_once.result c.in-Some.sent c.args.before.now.probes
    (c.sent_at_once-at_once.ensures.turn news p b) b.probes (c.in-Some.ensures.1 ∙ ap (λ n. c.sent_at_once-at_once.result + n) c.from.ensures)
