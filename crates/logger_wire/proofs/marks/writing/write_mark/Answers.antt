use Rattle.std.proofs.Common.{◌∙◌, ◌++◌, ap, take, drop, arith}
use Rattle.seq_arith.specs.MarkGrammar.{reading}
use Rattle.logger_wire.specs.MarkValue.{message_of}
use Rattle.logger_wire.proofs.MarkSpelled.{message_fits, spelling_is, read_back}
use Rattle.logger_wire.proofs.marks.writing.write_mark.Goals as goal

pub put_body-requires-clause-short : goal.put_body-requires-clause-short
put_body-requires-clause-short c = message_fits (message_of c.args.m.now) c.requires.sendable

pub put_body-requires-clause-room : goal.put_body-requires-clause-room
put_body-requires-clause-room c = omega (arith, message_fits (message_of c.args.m.now) c.requires.sendable, c.requires.room)

pub returns-clause-short : goal.returns-clause-short
returns-clause-short c = omega (arith, message_fits (message_of c.args.m.now) c.requires.sendable, c.put_body.ensures.length)

pub returns-clause-bytes : goal.returns-clause-bytes
returns-clause-bytes c = c.put_body.ensures.bytes ∙ ap (λ xs. xs ++ drop c.put_body.result c.args.out.now) (spelling_is (message_of c.args.m.now))

pub returns-clause-read : goal.returns-clause-read
returns-clause-read c =
    ap (λ xs. reading (take c.put_body.result xs)) (returns-clause-bytes c)
    ∙ read_back (message_of c.args.m.now) (drop c.put_body.result c.args.out.now) c.put_body.result c.requires.sendable c.put_body.ensures.length
