use Rattle.server_trait.specs.Service.{machine}
use Rattle.plain_connection.proofs.Opened.{fetched_served}
use Rattle.plain_connection.proofs.connection.PlainConnection.resumed.Goals as goal

pub read_again-requires-clause-served : goal.read_again-requires-clause-served
read_again-requires-clause-served g c =
    fetched_served (machine (g.S.Service.started c.args.kind) g.S.Service.after g.S.Service.greeting) (record { kind = c.args.kind; point = c.fetched.result; made = c.in_ok-new.field-0 })
    _ _ _ _ c.fetched.ensures c.in_ok-new.ensures
