use Rattle.server_trait.specs.Service.{machine}
use Rattle.plain_connection.proofs.Sends.{all_sent}
use Rattle.plain_connection.proofs.connection.PlainConnection.send_full_segments.Goals as goal

pub returns : goal.returns
returns g c =
    all_sent (machine (g.S.Service.started c.args.self.now.kind) g.S.Service.after g.S.Service.greeting) c.args.server c.args.before.now c.args.self.now.point
    c.in_ok-opens.ensures c.in_ok-resends.ensures c.in_ok-proceeds.ensures c.in_ok-ends.ensures
