use Rattle.logger_wire.proofs.MarkRead.{mark_read}
use Rattle.logger_wire.proofs.marks.reading.mark_after_key.Goals as goal

pub returns : goal.returns
returns c =
    mark_read c.args.bytes.now c.long.result c.long-2.result c.long-3.result c.behind.result.now c.long.ensures c.long-2.ensures c.long-3.ensures c.behind.ensures
