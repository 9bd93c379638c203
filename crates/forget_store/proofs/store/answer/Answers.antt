use Rattle.std.proofs.Common.{◌≡◌, ◌∙◌, refl, ap, option_map, Option, Some, None}
use Rattle.std.proofs.lemmas.Result.{on_ok_weaker}
use Rattle.seq_arith.specs.Message.{Message}
use Rattle.seq_arith.specs.declared.kinds.Grammar.{Grammar}
use Rattle.logger_store.specs.StoreState.{answer_bytes_by}
use Rattle.long_laws.specs.ForgetGrammar as forgets
use Rattle.long_laws.specs.Forgetting.ForgetAnswer.{Of_log}
use Rattle.forget_store.specs.Replies.{reply_bytes, answer_to_reading}
use Rattle.forget_store.proofs.store.answer.Goals as goal

of_log_bytes : (grammar : Grammar) (o : Option Message) → answer_bytes_by grammar o ≡ reply_bytes grammar (option_map Of_log o)
of_log_bytes grammar None = refl
of_log_bytes grammar (Some message) = refl

pub returns-in-Ok-clause-answer : goal.returns-in-Ok-clause-answer
returns-in-Ok-clause-answer c =
    on_ok_weaker c.answer_by.result
    (λ is. is
    ∙ (of_log_bytes c.args.grammar _ ∙ ap (λ r. reply_bytes c.args.grammar (answer_to_reading r (forgets.reading c.args.bytes.now) c.args.log.now)) c.in-Ok.ensures.value))
    c.answer_by.ensures.answer
