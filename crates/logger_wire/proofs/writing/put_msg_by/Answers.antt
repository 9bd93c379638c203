use Rattle.std.proofs.Common.{◌++◌, ◌∙◌, ap, sym, take, drop, arith}
use Rattle.seq_arith.specs.Message.{Message}
use Rattle.seq_arith.specs.MessageGrammar.{spelling_by, reading_by}
use Rattle.logger_wire.specs.Value.{message_of}
use Rattle.logger_wire.proofs.OneSpelling.{not_longer, message_written, read_back}
use Rattle.logger_wire.proofs.writing.put_msg_by.Goals as goal

pub put_kind-requires-clause-short : goal.put_kind-requires-clause-short
put_kind-requires-clause-short c = omega (arith, not_longer (message_of c.args.m.now) c.requires.sendable.spellable)

pub returns-clause-bytes : goal.returns-clause-bytes
returns-clause-bytes c =
    let message : Message = message_of c.args.m.now
    in message_written c.args.grammar message c.args.out.now c.put_kind.new.out c.put_kind.ensures.bytes
    ∙ ap (λ n. spelling_by c.args.grammar message ++ drop n c.args.out.now) (sym c.put_kind.ensures.length)

pub returns-clause-read : goal.returns-clause-read
returns-clause-read c =
    ap (λ xs. reading_by c.args.grammar (take c.put_kind.result xs)) (returns-clause-bytes c)
    ∙ read_back c.args.grammar (message_of c.args.m.now) c.args.out.now c.put_kind.result c.requires.sendable.spellable c.put_kind.ensures.length
