use Rattle.std.proofs.Common.{◌∙◌, ap}
use Rattle.std.specs.Prelude.{slice_get}
use Rattle.server_trait.specs.Service.{machine}
use Rattle.plain_connection.specs.Made.{end_of}
use Rattle.ft_model.specs.Point.{answered_run}
use Rattle.plain_connection.proofs.Served.{answered}
use Rattle.plain_connection.proofs.connection.PlainConnection.answered_end.Goals as goal

pub unreachable-requires : goal.unreachable-requires
unreachable-requires g c =
    let service = machine (g.S.Service.started c.args.self.now.kind) g.S.Service.after g.S.Service.greeting in
    c.in_default.not-Some (end_of (answered_run service c.args.self.now.point))
    (c.end.ensures ∙ (ap (λ n. slice_get c.self.inside.made.ends n) c.reads_answered.ensures
    ∙ (ap (λ x. slice_get x.made.ends x.point.reads_answered) c.self.view_is ∙ answered service c.args.self.now c.requires)))
