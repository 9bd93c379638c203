use Rattle.std.proofs.Common.{refl}
use Rattle.seq_arith.specs.declared.kinds.Kind.TheVariants as kinds
use Rattle.seq_arith.specs.Message.{Body}
use Rattle.seq_arith.specs.Message.{Body as bodies}
use Rattle.seq_arith.specs.MessageGrammar.{message_length}
use Rattle.logger_wire.specs.Records.{part_said}
use Rattle.logger_wire.proofs.OneSpelling.{written}
use Rattle.logger_wire.proofs.Putting.{behind_put}
use Rattle.logger_wire.proofs.writing.put_data.Goals as goal

pub returns-clause-bytes : goal.returns-clause-bytes
returns-clause-bytes c =
    let body : Body = bodies.DataMsg (part_said c.args.part.now)
    in cc (written c.args.grammar kinds.Data c.args.boot (message_length body) body c.args.out.now refl c.requires.room, behind_put body c.args.out.now c.requires.room)
