use Rattle.std.proofs.Common.{◌∙◌}
use Rattle.std.proofs.lemmas.Result.{on_ok_weaker}
use Rattle.logger_wire.specs.Value.{message_of}
use Rattle.twin_log.specs.Outbox.{request_in}
use Rattle.twin_log.proofs.Cases.{forwarded_alone_so}
use Rattle.twin_log.proofs.excluded.forwards_all_each_time.Goals as goal

pub returns : goal.returns
returns c =
    on_ok_weaker c.take_new.result
    (λ is. is ∙ forwarded_alone_so (request_in c.args.bytes.now (message_of c.args.msg.now)) c.args.head.now c.requires.wide c.requires.read c.requires.new)
    c.take_new.ensures.sent
