-- The code's datagrams between two loggers as plain values of their grammar.
use Rattle.std.specs.Prelude.{Result, Ok, Err}
use Rattle.seq_arith.specs.declared.twin.BadTwin.{BadTwin}
use Rattle.seq_arith.specs.TwinDatagram.{TwinDatagram}
use Rattle.seq_arith.specs.TwinDatagram.{TwinDatagram as datagrams}
use Rattle.logger_wire.specs.declared.twin.twin_msg.TwinMsg.{TwinMsg}
use Rattle.logger_wire.specs.declared.twin.twin_msg.TwinMsg.TheVariants as msgs

abbrev pub said_by : TwinMsg → TwinDatagram
said_by (msgs.Forward number message) = datagrams.Forward number message.now
said_by (msgs.Got number) = datagrams.Got number
said_by msgs.Alone = datagrams.Alone

-- the result of a reading as a plain value
abbrev pub seen : Result TwinMsg BadTwin → Result TwinDatagram BadTwin
seen (Ok msg) = Ok (said_by msg)
seen (Err bad) = Err bad
