use Rattle.std.proofs.Common.{subst, arith}
use Rattle.ft_model.specs.Legal.{machines}
use Rattle.ft_model.specs.declared.line.Draft.TheVariants.{Empty, Named}
use Rattle.report_laws.specs.Transitions.{HeaderLine}
use Rattle.report_laws.specs.Transitions.Position.{InHeader}
use Rattle.report_laws.specs.Transitions.Step.{Continues}
use Rattle.trace_check.proofs.HeaderLines.{service_is_read}
use Rattle.trace_check.proofs.header.read_service.Goals as goal

pub returns-in-Some-clause-ok : goal.returns-in-Some-clause-ok
returns-in-Some-clause-ok g c =
    service_is_read (machines g.S.Service.started g.S.Service.after g.S.Service.greeting) c.args.text.now c.args.at c.line_end-end.result c.in-Some.kind c.requires.name c.requires.leads c.line_end-end.ensures.line
    (omega arith) (omega arith) (subst (λ line. HeaderLine Empty line (Continues (InHeader (Named c.in-Some.kind)))) c.between.ensures c.in-Some.ensures)
