use Rattle.std.proofs.Common.{arith}
use Rattle.ft_model.specs.Legal.{machines}
use Rattle.trace_check.proofs.HeaderLines.{header_line_is_read}
use Rattle.trace_check.proofs.header.read_line.Goals as goal

pub returns-in-Ok-Some-clause-ok : goal.returns-in-Ok-Some-clause-ok
returns-in-Ok-Some-clause-ok g c =
    header_line_is_read (machines g.S.Service.started g.S.Service.after g.S.Service.greeting) c.args.text.now c.args.at c.args.end c.args.lines c.in-Ok-Some.schedule (omega arith) (omega arith) c.requires.line
    (rw c.in-Ok-Some.field-0-is at c.in-Ok-Some.ensures)
