use Rattle.std.proofs.Common.{◌∙◌, sym, subst}
use Rattle.mark_store.specs.Refinement.{IsLeftOfMarked}
use Rattle.mark_store.proofs.Steps.{head_left}
use Rattle.mark_store.proofs.store.MarkStore.entry.Goals as goal

pub returns : goal.returns
returns c = record {
  value = λ l a. c.entry.ensures.value ∙ head_left _ l c.args.i (subst (λ s. IsLeftOfMarked s l) (sym c.self.view_is) a);
}
