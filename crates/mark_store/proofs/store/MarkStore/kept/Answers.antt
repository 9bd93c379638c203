use Rattle.std.proofs.Common.{◌≡◌, ◌∙◌, sym, ap, subst, rules, None, Some, option_map}
use Rattle.logger_wire.specs.Records.{head_said}
use Rattle.mark_store.specs.Refinement.{IsLeftOfMarked}
use Rattle.mark_store.proofs.Steps.{kept_nothing, kept_some}
use Rattle.mark_store.proofs.store.MarkStore.kept.Goals as goal

pub returns-in_default : goal.returns-in_default
returns-in_default c =
    let none : c.entry.result ≡ None = search rules in
    λ l a. kept_nothing _ l c.args.i (subst (λ s. IsLeftOfMarked s l) (sym c.self.view_is) a) (sym (ap (option_map head_said) none) ∙ c.entry.ensures.value)

pub returns : goal.returns
returns c =
    let some : c.entry.result ≡ Some c.in-Some.entry = search rules in
    λ l a. kept_some _ l c.args.i c.saturating_sub.result c.trim_of-below.result.bytes (head_said c.in-Some.entry)
    (subst (λ s. IsLeftOfMarked s l) (sym c.self.view_is) a) (sym (ap (option_map head_said) some) ∙ c.entry.ensures.value)
    (ap (λ t. t.bytes) c.trim_of-below.ensures) c.saturating_sub.ensures
