use Rattle.std.proofs.Common.{◌∙◌, ap, [], ◌++◌}
use Rattle.std.proofs.lemmas.Result.{on_ok_weaker}
use Rattle.ft_io.proofs.Choices.{if_true}
use Rattle.forget_store.specs.AnyMessage.{any_said, is_changed_by}
use Rattle.kept_log.proofs.excluded.a_short_message_is_not_kept.Goals as goal

pub returns : goal.returns
returns c =
    on_ok_weaker c.take.result
    (λ is. is ∙ ap (λ more. c.args.kept.now.round ++ more) (if_true (is_changed_by c.args.kept.now.log (any_said c.args.any.now)) c.args.bytes.now [] c.requires.changes))
    c.take.ensures.round
