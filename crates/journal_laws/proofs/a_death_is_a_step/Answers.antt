use Rattle.std.proofs.Common.{◌∙◌, refl, sym, ap}
use Rattle.forget_store.specs.AnyMessage.{log_after_each}
use Rattle.journal_laws.proofs.Saying.{log-append}
use Rattle.journal_laws.proofs.Stepping.{comes_back}
use Rattle.journal_laws.proofs.a_death_is_a_step.Goals as goal

pub returns : goal.returns
returns g c = λ heeded kind world numbers before after calls back here way. (
  after,
  comes_back world.packets numbers back.kept world.log after way
      (back.after_is ∙ (log-append before back.answered back.kept ∙ ap (λ l. log_after_each l back.kept) (sym here))),
  refl,
  refl,
)
