use Rattle.std.proofs.Common.{◌∙◌, ◌-◌, ◌++◌, ap, take, drop, length}
use Rattle.std.specs.List.{flat_map}
use Rattle.std.proofs.lemmas.List.{take_all}
use Rattle.log_pages.specs.Pages.{lengths_in}
use Rattle.log_pages.proofs.Lengths.{none_spelled, run_more, lengths_more}
use Rattle.log_pages.proofs.runs.Runs.copy.Goals as goal

pub loop-run-preserved : goal.loop-run-preserved
loop-run-preserved c =
    run_more c.deref-run-items.result.now c.loop-run.run-index c.args.first c.loop-run.skip c.spell_run-skip.result _ c.args.lens.now c.loop-run.lens c.spell_run-skip.new.lens
    c.loop-run-test.true c.loop-run.invariant c.spell_run-skip.ensures.lens c.spell_run-skip.ensures.skip

pub returns : goal.returns
returns c =
    let all = take_all c.loop-run.run-index c.deref-run-items.result.now c.loop-run-test.false ∙ c.deref-run-items.ensures.value in
    c.spell_run.ensures.lens
    ∙ (lengths_more c.args.first c.loop-run.skip c.args.lens.now (flat_map lengths_in c.self.inside.closed.items) c.loop-run.lens (lengths_in c.self.inside.last)
    (c.loop-run.invariant.0 ∙ ap (λ rs. take 512 (c.args.lens.now ++ drop c.args.first (flat_map lengths_in rs))) all)
    (c.loop-run.invariant.1 ∙ ap (λ rs. c.args.first - length (flat_map lengths_in rs)) all)
    ∙ ap (λ xs. take 512 (c.args.lens.now ++ drop c.args.first xs)) c.self.view_is)

pub loop-run-init : goal.loop-run-init
loop-run-init c = none_spelled c.args.first c.args.lens.now c.requires
