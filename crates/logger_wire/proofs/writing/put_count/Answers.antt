use Rattle.std.proofs.Common.{refl}
use Rattle.seq_arith.specs.Message.{Body}
use Rattle.seq_arith.specs.Message.{Body as bodies}
use Rattle.seq_arith.specs.MessageGrammar.{message_length}
use Rattle.logger_wire.proofs.OneSpelling.{written}
use Rattle.logger_wire.proofs.Putting.{fields_are_all}
use Rattle.logger_wire.proofs.writing.put_count.Goals as goal

pub returns-clause-bytes : goal.returns-clause-bytes
returns-clause-bytes c =
    let body : Body = bodies.SummaryMsg c.args.n
    in cc (fields_are_all body c.args.out.now refl c.requires, written c.args.grammar c.args.kind c.args.boot (message_length body) body c.args.out.now refl c.requires)
