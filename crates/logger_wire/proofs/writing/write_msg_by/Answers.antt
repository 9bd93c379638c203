use Rattle.std.proofs.Common.{arith}
use Rattle.logger_wire.specs.Value.{message_of}
use Rattle.logger_wire.proofs.OneSpelling.{not_longer}
use Rattle.logger_wire.proofs.writing.write_msg_by.Goals as goal

pub put_msg_by-requires-clause-room : goal.put_msg_by-requires-clause-room
put_msg_by-requires-clause-room c = omega (arith, not_longer (message_of c.args.m.now) c.requires.sendable.spellable, c.requires.room)
