-- The code's messages about marks as plain values of their grammar.
use Rattle.std.specs.Prelude.{Result, Ok, Err}
use Rattle.seq_arith.specs.declared.mark.BadMark.{BadMark}
use Rattle.seq_arith.specs.Mark as said
use Rattle.seq_arith.specs.Mark.{MarkMessage}
use Rattle.seq_arith.specs.Mark.{MarkBody as bodies}
use Rattle.logger_wire.specs.declared.marks.mark_msg.MarkMsg.{MarkMsg}
use Rattle.logger_wire.specs.declared.marks.mark_msg.Mark.{Mark}
use Rattle.logger_wire.specs.declared.marks.mark_msg.MarkBody.{MarkBody}
use Rattle.logger_wire.specs.declared.marks.mark_msg.MarkBody.TheVariants as body

abbrev pub mark_said : Mark → said.Mark
mark_said mark = record { reads = mark.reads; length = mark.length; made = mark.made; state = mark.state.now }

abbrev pub body_of : MarkBody → said.MarkBody
body_of (body.Mark key mark) = bodies.MarkMsg key (mark_said mark)
body_of (body.Marked key reads) = bodies.MarkedMsg key reads
body_of (body.Ask key) = bodies.AskMsg key
body_of (body.Held key mark) = bodies.HeldMsg key (mark_said mark)

abbrev pub message_of : MarkMsg → MarkMessage
message_of msg = record { boot = msg.boot; body = body_of msg.body }

-- a result of reading, as a plain value
abbrev pub seen : Result MarkMsg BadMark → Result MarkMessage BadMark
seen (Ok msg) = Ok (message_of msg)
seen (Err bad) = Err bad
