use Rattle.std.proofs.Common.{◌≡◌, ◌-◌, ◌≤◌, length, drop}
use Rattle.ft_model.specs.Legal.{machines}
use Rattle.report_laws.specs.Lines.{lines_in}
use Rattle.report_laws.specs.Transitions.Position.{InClosing}
use Rattle.trace_check.specs.Leads.{Leads}
use Rattle.trace_check.proofs.closing.check_closing.Given as goal

abbrev pub invariant-loop-at : goal.invariant-loop-at
invariant-loop-at g l = record {
  within : l.at ≤ length l.text;
  few : l.lines ≤ l.at;
  leads : Leads (machines g.S.Service.started g.S.Service.after g.S.Service.greeting) l.text (InClosing (lines_in l.left)) (drop l.at l.text) l.lines;
  same : drop l.at l.text ≡ l.left → drop l.fn.at l.text ≡ l.due;
}

abbrev pub decreases-loop-at : goal.decreases-loop-at
decreases-loop-at g l = length l.text - l.at
