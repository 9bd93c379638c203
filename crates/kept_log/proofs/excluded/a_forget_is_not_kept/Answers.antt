use Rattle.std.proofs.Common.{◌∙◌, ap, [], ◌++◌}
use Rattle.std.proofs.lemmas.Result.{on_ok_weaker}
use Rattle.ft_io.proofs.Choices.{if_true}
use Rattle.forget_wire.specs.Value.{message_of}
use Rattle.forget_store.specs.AnyMessage.{is_changed_by}
use Rattle.forget_store.specs.AnyMessage.AnyMessage.{Forgetting}
use Rattle.kept_log.proofs.excluded.a_forget_is_not_kept.Goals as goal

pub returns : goal.returns
returns c =
    on_ok_weaker c.take.result
    (λ is. is ∙ ap (λ more. c.args.kept.now.round ++ more) (if_true (is_changed_by c.args.kept.now.log (Forgetting (message_of c.args.m))) c.args.bytes.now [] c.requires.recycles))
    c.take.ensures.round
