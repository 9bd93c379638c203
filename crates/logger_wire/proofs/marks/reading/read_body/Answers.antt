use Rattle.logger_wire.specs.MarkValue.{mark_said}
use Rattle.logger_wire.proofs.MarkRead.{mark_is_said, held_is_said}
use Rattle.logger_wire.proofs.marks.reading.read_body.Goals as goal

pub returns-in-Mark : goal.returns-in-Mark
returns-in-Mark c =
    mark_is_said c.args.kind c.args.bytes.now c.key.result (mark_said c.mark_after_key.result) c.in-Mark.is c.key.ensures.ip c.key.ensures.port
    c.mark_after_key.ensures

pub returns-in-Held : goal.returns-in-Held
returns-in-Held c =
    held_is_said c.args.kind c.args.bytes.now c.key-in-Held.result (mark_said c.mark_after_key-in-Held.result) c.in-Held.is c.key-in-Held.ensures.ip
    c.key-in-Held.ensures.port c.mark_after_key-in-Held.ensures
