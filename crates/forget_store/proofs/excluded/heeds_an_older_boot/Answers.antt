use Rattle.std.proofs.Common.{◌∙◌, ◌==◌, arith}
use Rattle.std.proofs.lemmas.Bool.{ne_eqb}
use Rattle.ft_io.proofs.Choices.{if_false}
use Rattle.long_laws.specs.Forgetting.{after_forget}
use Rattle.forget_store.proofs.excluded.heeds_an_older_boot.Goals as goal

pub returns : goal.returns
unfolding after_forget
returns c = c.take_forget.ensures.next ∙ if_false (c.args.boot == c.args.log.now.boot) _ c.args.log.now (ne_eqb c.args.boot c.args.log.now.boot (λ e. absurd (omega (arith, e, c.requires))))
