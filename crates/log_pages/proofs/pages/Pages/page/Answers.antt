use Rattle.std.proofs.Common.{◌∙◌, ◌-◌, ap, refl, rules}
use Rattle.std.specs.Prelude.{unwrap_or, []}
use Rattle.log_pages.specs.Pages.{page_of}
use Rattle.log_pages.proofs.GivenUp.{full_kept}
use Rattle.log_pages.proofs.pages.Pages.page.Goals as goal

pub returns-then-place-len-clause-value : goal.returns-then-place-len-clause-value
returns-then-place-len-clause-value c =
    full_kept c.self.inside.given_up c.args.i (c.args.i - c.self.inside.given_up) c.self.inside.full.items (unwrap_or c.self.inside.last []) c.as_slice.result.now c.index.result.now c.self.invariant.0 (search rules) refl (search rules) (c.as_slice.ensures.value ∙ c.index.ensures)
    ∙ ap (λ s. page_of s.bytes c.args.i) c.self.view_is
