use Rattle.server_trait.specs.Service.{machine}
use Rattle.logger_wire.specs.Records.{numbers_said}
use Rattle.tcp_rules.specs.Profiles.{profile_of}
use Rattle.plain_connection.proofs.Opened.{opened_served}
use Rattle.plain_connection.proofs.connection.PlainConnection.opened.Goals as goal

pub returns-clause-served : goal.returns-clause-served
returns-clause-served g c =
    opened_served (machine (g.S.Service.started c.args.kind) g.S.Service.after g.S.Service.greeting) (record { kind = c.args.kind; point = c.opened.result; made = c.in_ok-new.field-0 })
    (profile_of c.args.profile) c.args.asked (numbers_said c.args.numbers.now) c.opened.ensures c.in_ok-new.ensures
