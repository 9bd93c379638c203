use Rattle.std.proofs.Common.{refl}
use Rattle.seq_arith.specs.declared.kinds.Kind.TheVariants as kinds
use Rattle.seq_arith.specs.Message.{Body}
use Rattle.seq_arith.specs.Message.{Body as bodies}
use Rattle.seq_arith.specs.MessageGrammar.{message_length}
use Rattle.logger_wire.specs.Records.{head_said}
use Rattle.logger_wire.proofs.OneSpelling.{written}
use Rattle.logger_wire.proofs.writing.put_entry.Goals as goal

pub returns-clause-bytes : goal.returns-clause-bytes
returns-clause-bytes c =
    let body : Body = bodies.EntryMsg c.args.index (head_said c.args.head.now)
    in cc (written c.args.grammar kinds.Entry c.args.boot (message_length body) body c.args.out.now refl c.requires)
