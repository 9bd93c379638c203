use Rattle.std.proofs.Common.{◌∙◌, ap}
use Rattle.std.proofs.lemmas.Result.{on_ok_weaker}
use Rattle.logger_wire.specs.Value.{message_of}
use Rattle.twin_log.specs.Outbox.{request_in}
use Rattle.twin_log.proofs.Cases.{takes_keeps}
use Rattle.twin_log.proofs.excluded.drops_what_it_forwarded.Goals as goal

pub returns : goal.returns
returns c =
    on_ok_weaker c.take_new.result
    (λ is. ap (λ k. k.waiting) (is ∙ takes_keeps (request_in c.args.bytes.now (message_of c.args.msg.now)) c.args.head.now)) c.take_new.ensures.next
