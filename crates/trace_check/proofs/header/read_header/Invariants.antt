use Rattle.std.proofs.Common.{◌-◌, length}
use Rattle.ft_model.specs.Legal.{machines}
use Rattle.ft_model.specs.declared.line.Draft.TheVariants.{Begun}
use Rattle.trace_check.specs.Leads.{IsReadTo}
use Rattle.trace_check.proofs.header.read_header.Given as goal

abbrev pub invariant-loop-end : goal.invariant-loop-end
invariant-loop-end g l = IsReadTo (machines g.S.Service.started g.S.Service.after g.S.Service.greeting) l.text (Begun l.header.schedule) l.header.bytes l.header.lines

abbrev pub decreases-loop-end : goal.decreases-loop-end
decreases-loop-end g l = length l.text - l.header.bytes
