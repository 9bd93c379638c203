use Rattle.std.proofs.Common.{sym, ap₂, subst}
use Rattle.mark_laws.specs.MarkedLog.{nothing_logged}
use Rattle.mark_store.specs.Refinement.{TrimmedAtMarks, IsLeftOfMarked}
use Rattle.mark_store.proofs.Steps.{begins}
use Rattle.mark_store.proofs.store.MarkStore.new.Goals as goal

pub returns : goal.returns
returns c =
    subst (λ s. IsLeftOfMarked s nothing_logged) (ap₂ (λ t ms. let s : TrimmedAtMarks = record { trimmed = t; marks = ms } in s) (sym c.new.ensures) (sym c.new-2.ensures.items))
    begins
