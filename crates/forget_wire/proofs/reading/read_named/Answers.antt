use Rattle.forget_wire.proofs.ForgetRead.{named_read}
use Rattle.forget_wire.proofs.reading.read_named.Goals as goal

pub returns : goal.returns
returns c =
    named_read c.args.bytes.now c.key.result.ip c.key.result.port c.long.result c.long-2.result c.key.ensures.ip c.key.ensures.port c.long.ensures c.long-2.ensures
