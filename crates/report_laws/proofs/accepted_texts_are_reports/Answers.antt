use Rattle.report_laws.proofs.accepted_texts_are_reports.Goals as goal
use Rattle.ft_model.specs.Legal.{machines}
use Rattle.report_laws.proofs.Accepted.{read_reported}
use Rattle.report_laws.proofs.WholeReports.{whole_read}

pub returns : goal.returns
returns g c = record {
  reports = λ text e. read_reported (machines g.S.Service.started g.S.Service.after g.S.Service.greeting) text e;
  accepted = λ text r. whole_read (machines g.S.Service.started g.S.Service.after g.S.Service.greeting) (λ kind. (g.met.S.Service.greets_shortly (g.S.Service.started kind), g.met.S.Service.is_short)) g.met.S.Service.writes_bytes text r;
}
