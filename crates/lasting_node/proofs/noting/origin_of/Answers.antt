use Rattle.std.proofs.Common.{◌∙◌, sym}
use Rattle.ft_io.proofs.Choices.{if_true, if_false}
use Rattle.lasting_laws.specs.Watching.{is_empty}
use Rattle.lasting_lives.specs.declared.watch.Origin.TheVariants as origin
use Rattle.lasting_node.proofs.noting.origin_of.Goals as goal

pub returns-then-is_empty : goal.returns-then-is_empty
returns-then-is_empty c = λ p shows. sym (if_true (is_empty p) origin.RestoredEmpty origin.Restored (sym (c.is_empty.ensures p shows) ∙ c.if-is_empty.true))

pub returns-else-is_empty : goal.returns-else-is_empty
returns-else-is_empty c = λ p shows. sym (if_false (is_empty p) origin.RestoredEmpty origin.Restored (sym (c.is_empty.ensures p shows) ∙ c.if-is_empty.false))
