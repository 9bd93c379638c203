use Rattle.std.proofs.Common.{◌≡◌, ℕ, ◌+◌, ◌-◌, ◌≤◌, true, List, take, drop, length, sym, subst, ◌∙◌, arith}
use Rattle.std.specs.Str.{bytes_eq}
use Rattle.std.proofs.lemmas.List.{take_rest}
use Rattle.ft_model.specs.Legal.{machines}
use Rattle.report_laws.specs.Lines.{lines_in}
use Rattle.report_laws.specs.Transitions.Position.{InClosing}
use Rattle.trace_check.specs.Leads.{Leads}
use Rattle.trace_check.proofs.ClosingLines.{line_closes, line_is_same}
use Rattle.trace_check.proofs.closing.check_closing.Goals as goal

pub loop-at-preserved : goal.loop-at-preserved
loop-at-preserved g c =
    let text : List ℕ = c.args.text.now in
    let left : List ℕ = c.loop-at.left.now in
    let at : ℕ = c.loop-at.at in
    let end : ℕ = c.line_end-end.result in
    let len : ℕ = c.line_length-len.result in
    let same : bytes_eq (drop at (take end text)) (take len left) ≡ true =
    subst (λ t. bytes_eq t (take len left) ≡ true) c.between.ensures (sym c.is_same.ensures ∙ c.if-not-is_same.false) in
    let rest : take (length left - len) (drop len left) ≡ drop len left = take_rest left len in
    let within : end ≤ length text = omega arith in
    let few : c.loop-at.lines ≤ at = c.loop-at.invariant.few in
    record {
      within = within;
      few = omega arith;
      leads = subst (λ l. Leads (machines g.S.Service.started g.S.Service.after g.S.Service.greeting) text (InClosing (lines_in l)) (drop end text) (c.loop-at.lines + 1)) (sym rest)
          (line_closes (machines g.S.Service.started g.S.Service.after g.S.Service.greeting) text left at end len c.loop-at.lines c.line_end-end.ensures.line c.line_length-len.ensures.first same c.loop-at.invariant.leads);
      same = λ e. c.loop-at.invariant.same (line_is_same text left at end len (omega arith) within same (e ∙ rest));
    }
