use Rattle.std.proofs.Common.{◌∙◌, ap}
use Rattle.seq_arith.specs.MessageGrammar.{reading}
use Rattle.seq_arith.proofs.MessageSpelling.{message_is_read}
use Rattle.logger_wire.specs.Value.{message_of}
use Rattle.logger_store.proofs.msg_out.MsgOut.put.Goals as goal

pub returns-clause-read : goal.returns-clause-read
returns-clause-read c = ap (λ bytes. reading bytes) c.put_by.ensures ∙ message_is_read (message_of c.args.m.now) c.requires.spellable
