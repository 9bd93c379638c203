use Rattle.std.proofs.Common.{◌∙◌, ap}
use Rattle.seq_arith.specs.MessageGrammar.{reading_by}
use Rattle.seq_arith.proofs.MessageSpelling.{message_is_read}
use Rattle.logger_wire.specs.Value.{message_of}
use Rattle.log_snapshot.proofs.writing_steps.write.Goals as goal

pub returns : goal.returns
returns c = ap (reading_by c.args.grammar) c.put_by.ensures ∙ message_is_read (message_of c.args.m.now) c.requires.spellable
