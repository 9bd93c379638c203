use Rattle.std.proofs.Common.{◌≡◌, ◌∙◌, ap, false, None, []}
use Rattle.std.proofs.lemmas.Result.{on_ok_weaker}
use Rattle.ft_io.proofs.Outcomes.{if_ok}
use Rattle.seq_arith.specs.declared.kinds.Grammar.TheVariants.{Plain}
use Rattle.long_laws.specs.ForgetGrammar as forgets
use Rattle.forget_store.specs.AnyMessage.{heeded_as}
use Rattle.forget_store.specs.Replies.{reply_bytes}
use Rattle.link_parts.specs.LoggerTurns.{log_with, answer_for}
use Rattle.link_parts.proofs.excluded.forgets_without_the_word.Goals as goal

pub returns-clause-unchanged : goal.returns-clause-unchanged
returns-clause-unchanged c =
    on_ok_weaker c.answer.result (λ is. is ∙ ap (λ r. log_with c.args.store.now (heeded_as false r (forgets.reading c.args.bytes.now))) c.requires.1) c.answer.ensures.next

pub returns-clause-unanswered : goal.returns-clause-unanswered
returns-clause-unanswered c =
    if_ok c.answer.result
    (λ out is. is ∙ ap (λ r. reply_bytes Plain (answer_for c.args.store.now (heeded_as false r (forgets.reading c.args.bytes.now)))) c.requires.1) c.answer.ensures.answer
