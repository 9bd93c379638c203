use Rattle.std.proofs.Common.{◌≡◌, ◌∙◌, ◌++◌, sym, ap, rules, None, Some}
use Rattle.std.specs.List.{flat_map}
use Rattle.log_pages.specs.Pages.{lengths_in, took}
use Rattle.log_pages.proofs.Took.{run_taken, run_closing}
use Rattle.log_pages.proofs.runs.Runs.took.Goals as goal

pub returns-in_err-total : goal.returns-in_err-total
returns-in_err-total c =
    let none : c.took_of.result ≡ None = search rules in
    let result : c.from_residual.result ≡ None = search rules in
    result
    ∙ (sym (run_closing c.deref-run-items.result.now c.loop-run.run-index c.args.reads c.loop-run.left c.loop-run.total _ (lengths_in c.self.inside.last) _ c.loop-run-test.true c.loop-run.invariant.0 (sym c.took_of.ensures.value ∙ none))
    ∙ (ap (λ rs. took c.args.reads (flat_map lengths_in rs ++ lengths_in c.self.inside.last)) c.deref-run-items.ensures.value ∙ ap (took c.args.reads) c.self.view_is))

pub loop-run-preserved : goal.loop-run-preserved
loop-run-preserved c =
    let some : c.took_of.result ≡ Some c.in_ok-total.field-0 = search rules in
    run_taken c.deref-run-items.result.now c.loop-run.run-index c.args.reads c.loop-run.left c.saturating_sub-left.result c.loop-run.total c.in_ok-total.field-0 _ (lengths_in c.self.inside.last) _ c.loop-run-test.true
    c.loop-run.invariant (sym c.took_of.ensures.value ∙ some) c.saturating_sub-left.ensures
