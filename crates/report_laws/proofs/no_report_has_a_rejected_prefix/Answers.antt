use Rattle.report_laws.proofs.no_report_has_a_rejected_prefix.Goals as goal
use Rattle.ft_model.specs.Legal.{machines}
use Rattle.report_laws.proofs.Rejection.{no_end}
use Rattle.report_laws.proofs.WholeReports.{whole_read}
use Rattle.report_laws.specs.Lines.{lines_in}
use Rattle.report_laws.specs.Transitions.Position.{AtStart}

pub returns : goal.returns
returns g c = λ text other line law p same r.
    no_end (machines g.S.Service.started g.S.Service.after g.S.Service.greeting) AtStart (lines_in text) (lines_in other) line law p
    (whole_read (machines g.S.Service.started g.S.Service.after g.S.Service.greeting) (λ kind. (g.met.S.Service.greets_shortly (g.S.Service.started kind), g.met.S.Service.is_short)) g.met.S.Service.writes_bytes other r) same
